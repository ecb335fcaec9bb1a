-- What a push or a take does to a state: it is refused, waits, or the oldest scan leaves. Assumes nothing.
use Prim.Native.Nat.{ℕ, zero, suc, ◌≤◌}
use native.Mathlib.Omega.{arith}
use mathlib.Core.Path.{◌≡◌, refl, sym, ap, ◌∙◌, subst}
use mathlib.Core.Bool.{Bool, true, false}
use mathlib.Core.List.{List, [], ◌∷◌, ◌++◌, map-append, append-nil, append_assoc}
use mathlib.Core.Option.{Option, none, some}
use lib.ListN.{length}
use lib.Dec.{ltb}
use borrow.Author.Tests.{ltb-true, ltb-false}
use Rattle.buffers.specs.Answer.{Reply, refused, waits, gives, refusal_in}
use Rattle.buffers.specs.Run.{emitted_by}
use Rattle.engine.specs.declared.config.FgoConfig.{FgoConfig}
use Rattle.engine.specs.Config.{lag}
use Rattle.engine.specs.Frame.{Frame}
use Rattle.engine.specs.Body.{Body, frame_in, body_refusal, decode, decoded_by}
use Rattle.fgo_spec.specs.Windows.{Scan}
use Rattle.fgo_spec.specs.Emitting.{Emitted}
use Rattle.fgo_spec.specs.Refiner.{State, arrive, emit, leave, freeze_oldest, settle, full8, full9, full10, first_of, push_by, push_read, push_frame, push, takes}
use Rattle.fgo_spec.specs.History.{scans_of}
use Rattle.fgo_spec.proofs.Accepting.{Room, has_room}

module _ (c : FgoConfig) where
  -- it is refused and leaves the state t; or it goes on with the state u, of which Q holds, and waits, or u's oldest
  -- scan leaves
  pub data Does (t u : State) (Q : Type 0) (a : Reply Emitted × State) : Type 0 where
    refuses : (n : ℕ) → a ≡ (refused n, t) → Does t u Q a
    holds : Q → length u.scans ≤ lag c → a ≡ (waits, u) → Does t u Q a
    leaves : Q → (s : Scan) (ss : List Scan) → u.scans ≡ s ∷ ss → a ≡ (gives (emit c u.first u.prefixes s), leave c u s ss) → Does t u Q a

  pub take_does : (t : State) → Does t t (Unit {0}) (takes c t)
  unfolding takes freeze_oldest
  take_does t = go t.scans refl
    where
      go : (l : List Scan) → t.scans ≡ l → Does t t (Unit {0}) (freeze_oldest c t t.scans)
      go [] e = refuses 13 (ap (freeze_oldest c t) e)
      go (s ∷ ss) e = leaves tt s ss e (ap (freeze_oldest c t) e)

  -- the body passes, and there is room for its frame
  abbrev pub Passes : State → Body → Type 0
  Passes t b = (body_refusal b ≡ 0) × Room t (frame_in b)

  pub push_does : (t : State) (b : Body) → Does t (arrive c t (frame_in b)) (Passes t b) (push c t b)
  unfolding push decode push_frame settle freeze_oldest
  push_does t b = read (body_refusal b) refl
    where
      f : Frame
      f = frame_in b

      u : State
      u = arrive c t f

      settles : (x : Bool) → ltb (lag c) (length u.scans) ≡ x → Passes t b → (l : List Scan) → u.scans ≡ l → Does t u (Passes t b) (settle c u x)
      settles false q k l e = holds k (ltb-false (lag c) (length u.scans) q) refl
      settles true q k [] e = absurd (let z = ltb-true (lag c) (length u.scans) q in omega (arith, ap length e))
      settles true q k (s ∷ ss) e = leaves k s ss e (ap (freeze_oldest c u) e)

      room : body_refusal b ≡ 0 → (o : Option ℕ) → first_of (full8 t) (full9 t f) (full10 t f) ≡ o → Does t u (Passes t b) (push_by o c t f)
      room z (some n) q = refuses n refl
      room z none q = settles (ltb (lag c) (length u.scans)) refl (z, has_room t f q) u.scans refl

      read : (n : ℕ) → body_refusal b ≡ n → Does t u (Passes t b) (push_read c t (decoded_by n f))
      read zero z = room z (first_of (full8 t) (full9 t f) (full10 t f)) refl
      read (suc n) z = refuses (suc n) refl

  -- ---- the scans after it, with those emitted before, and the next id

  -- as they were, or those of u
  pub data Leads (es : List Emitted) (t u : State) (Q : Type 0) (a : Reply Emitted × State) : Type 0 where
    stays :
        scans_of (es ++ emitted_by a.0) ++ a.1.scans ≡ scans_of es ++ t.scans → a.1.next_id ≡ t.next_id → (n : ℕ) → refusal_in a.0 ≡ some n →
        Leads es t u Q a
    goes :
        Q → scans_of (es ++ emitted_by a.0) ++ a.1.scans ≡ scans_of es ++ u.scans → a.1.next_id ≡ u.next_id → refusal_in a.0 ≡ none →
        Leads es t u Q a

  pub leads : (es : List Emitted) (t u : State) (Q : Type 0) (a : Reply Emitted × State) → Does t u Q a → Leads es t u Q a
  unfolding leave emit
  leads es t u Q a (refuses n q) = subst (Leads es t u Q) (sym q) (stays (ap (λ l. scans_of l ++ t.scans) (append-nil es)) refl n refl)
  leads es t u Q a (holds k l q) = subst (Leads es t u Q) (sym q) (goes k (ap (λ l. scans_of l ++ u.scans) (append-nil es)) refl refl)
  leads es t u Q a (leaves k s ss p q) =
      subst (Leads es t u Q) (sym q)
      (goes k
      (ap (λ l. l ++ ss) (map-append (λ e. e.scan) es (emit c u.first u.prefixes s ∷ [])) ∙ append_assoc (scans_of es) (s ∷ []) ss ∙ ap (λ l. scans_of es ++ l) (sym p))
      refl refl)
