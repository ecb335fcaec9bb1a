-- What the writes into a buffer are. Definitions only.
use Rattle.std.specs.Prelude.{ℕ, ◌+◌, List, ◌++◌, length, take, drop, replicate}

-- a list with another one over it, from place o on
unfoldable pub over : {A : Type 0} → ℕ → List A → List A → List A
over o g l = take o l ++ (g ++ drop (o + length g) l)

-- a list with n cells from place o on cleared: they hold zero
abbrev pub cleared : {A : Type 0} → A → ℕ → ℕ → List A → List A
cleared zero o n l = over o (replicate n zero) l

-- a list of which the first n cells were in use, and now g is, at its front: the others of those are cleared
abbrev pub renewed : {A : Type 0} → A → ℕ → List A → List A → List A
renewed zero n g l = over 0 g (cleared zero 0 n l)
