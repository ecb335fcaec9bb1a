-- What a digest goes over: "each the 64-bit FNV-1a hash over the whole store, fields first, then the arrays in the
-- tables' order". Definitions only.
use Rattle.std.specs.Prelude.{ℕ, List, ◌++◌, Float}
use Rattle.digest.specs.Digest.{BASIS, fnv1a, words_bytes, numbers_bytes}
use Rattle.fgo_state.specs.declared.state.FixedLagRefiner.{FixedLagRefiner}
use Rattle.fgo_state.specs.declared.state.Memory.{Memory}
use Rattle.smoother_window.specs.declared.FixedLagSmoother.{FixedLagSmoother}
use Rattle.smoother.specs.Promise.{Window}
use Rattle.calls_cells.specs.Cells.{refiner_fields, smoother_fields}

-- two buffers, after a hash
abbrev pub buffers_hash : ℕ → List ℕ → List Float → ℕ
buffers_hash h ws ns = fnv1a h (words_bytes ws ++ numbers_bytes ns)

-- a refiner with its memory
unfoldable pub refiner_hash : FixedLagRefiner → Memory → ℕ
refiner_hash r m =
    fnv1a BASIS
    (words_bytes (refiner_fields r)
    ++ (m.scans.bodies ++ (words_bytes m.scans.columns ++ (words_bytes m.owners ++ (words_bytes m.parts.tracks ++ numbers_bytes m.parts.filters)))))

-- a smoother with its window
unfoldable pub smoother_hash : FixedLagSmoother → Window → ℕ
smoother_hash s w = fnv1a BASIS (words_bytes (smoother_fields s) ++ (words_bytes w.words ++ numbers_bytes w.numbers))
