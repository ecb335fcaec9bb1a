-- What an opening prints, by its refusal, 0 for none. Definitions only.
use Rattle.std.specs.Prelude.{ℕ, zero, suc, List}
use Rattle.print.specs.Text.{opened_line, refused_line}

-- the line
abbrev pub opening_text : ℕ → List ℕ
opening_text zero = opened_line
opening_text (suc n) = refused_line (suc n)
