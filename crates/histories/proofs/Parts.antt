-- A list whose image is in parts is in parts. Assumes nothing.
use mathlib.Core.Path.{◌≡◌, refl, sym, ap, ◌∙◌}
use mathlib.Core.List.{List, [], ◌∷◌, ◌++◌, map, head-eq_of_cons-eq, tail-eq_of_cons-eq, nil≢cons}

-- in two
pub record Parts {A B : Type 0} (g : A → B) (l : List A) (front rest : List B) : Type 0 where
  pub before : List A
  pub after : List A
  pub whole : l ≡ before ++ after
  pub left : map g before ≡ front
  pub right : map g after ≡ rest

pub parts : {A B : Type 0} (g : A → B) (l : List A) (front rest : List B) → map g l ≡ front ++ rest → Parts g l front rest
parts g l [] rest e = record { before = []; after = l; whole = refl; left = refl; right = e }
parts g [] (b ∷ front) rest e = absurd (nil≢cons e)
parts g (a ∷ l) (b ∷ front) rest e =
    let p = parts g l front rest (tail-eq_of_cons-eq e) in
    let h = head-eq_of_cons-eq e in
    let q = p.left in
    record { before = a ∷ p.before; after = p.after; whole = ap (λ k. a ∷ k) p.whole; left = λ i. h i ∷ q i; right = p.right }

-- with one that is looked for between them
pub record Around {A B : Type 0} (g : A → B) (l : List A) (front : List B) (b : B) (rest : List B) : Type 0 where
  pub before : List A
  pub item : A
  pub after : List A
  pub whole : l ≡ before ++ (item ∷ after)
  pub left : map g before ≡ front
  pub here : g item ≡ b

pub around : {A B : Type 0} (g : A → B) (l : List A) (front : List B) (b : B) (rest : List B) → map g l ≡ front ++ (b ∷ rest) → Around g l front b rest
around g l front b rest e = go p.after refl
  where
    p : Parts g l front (b ∷ rest)
    p = parts g l front (b ∷ rest) e

    go : (m : List _) → p.after ≡ m → Around g l front b rest
    go [] z = absurd (nil≢cons (ap (map g) (sym z) ∙ p.right))
    go (a ∷ m) z =
        record {
          before = p.before;
          item = a;
          after = m;
          whole = p.whole ∙ ap (λ k. p.before ++ k) z;
          left = p.left;
          here = head-eq_of_cons-eq (ap (map g) (sym z) ∙ p.right);
        }
