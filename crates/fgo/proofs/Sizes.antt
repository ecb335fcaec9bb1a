-- A frame that is sized as refiners give them has room in output buffers that are long enough. Assumes nothing.
use native.Mathlib.Omega.{arith}
use mathlib.Core.Path.{sym}
use mathlib.Core.List.{◌++◌, map, flat_map}
use lib.ListN.{length-append, length-map}
use Rattle.buffers.specs.Answer.{gives, Small}
use Rattle.fgo_spec.specs.Emitting.{Emitted, track_words, track_numbers, associations_words, cost_number, words_of, numbers_of, written}
use Rattle.fgo_emit.proofs.Associations.{associations_size}
use Rattle.fgo_emit.proofs.Listing.{words_size, numbers-size}
use Rattle.fgo.specs.Promise.{Sized}

pub sized-small : (e : Emitted) → Sized e → Small written (gives e)
unfolding words_of numbers_of
sized-small e h =
    let f = e.scan.frame in
    let ts = flat_map track_words e.tracks in
    let al = associations_words f.associations e.scan.ids in
    let cs = map (λ a. cost_number a.cost) f.associations in (
      omega
          (arith, h, length-append ts (al ++ f.sensors), length-append al f.sensors, words_size e.tracks, associations_size f.associations e.scan.ids (sym h.complete)),
      omega
          (arith, h, length-append (flat_map track_numbers e.tracks) cs, numbers-size e.tracks, length-map f.associations (λ a. cost_number a.cost)),
    )
