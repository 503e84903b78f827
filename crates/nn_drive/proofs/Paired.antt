-- Two lists of one length, walked together.
use Rattle.std.proofs.Common.{◌≡◌, List, [], ◌∷◌, ◌++◌, length, map, refl, sym, ap, ◌∙◌, subst, arith, append_assoc, append-nil}
use Rattle.std.proofs.lemmas.List.{map-append}
use Rattle.std.specs.List.{AllZip}

-- one element more was made of the first that was left
pub map_step : {A B : Type 0} (f : A → B) (xs xs' : List A) (x : A) (ys ys' all : List B) → xs' ≡ xs ++ x ∷ [] → ys ≡ f x ∷ ys' → map f xs ++ ys ≡ all → map f xs' ++ ys' ≡ all
map_step f xs xs' x ys ys' all q r h = ap (λ l. map f l ++ ys') q ∙ ap (λ l. l ++ ys') (map-append f xs (x ∷ [])) ∙ append_assoc (map f xs) (f x ∷ []) ys' ∙ ap (λ l. map f xs ++ l) (sym r) ∙ h

pub map_done : {A B : Type 0} (f : A → B) (xs : List A) (ys all : List B) → ys ≡ [] → map f xs ++ ys ≡ all → map f xs ≡ all
map_done f xs ys all e h = sym (append-nil (map f xs)) ∙ ap (λ l. map f xs ++ l) (sym e) ∙ h

pub none_of : {A : Type 0} (xs : List A) → length xs ≡ 0 → xs ≡ []
none_of [] h = refl
none_of (x ∷ xs) h = absurd (omega (arith, h))

module _ {A B : Type 0} (R : A → B → Type 0) where
  pub zip_heads : (xs xs' : List A) (ys ys' : List B) (x : A) (y : B) → xs ≡ x ∷ xs' → ys ≡ y ∷ ys' → AllZip R xs ys → R x y × AllZip R xs' ys'
  zip_heads xs xs' ys ys' x y a b h = let t : AllZip R (x ∷ xs') (y ∷ ys') = subst (λ l. AllZip R l (y ∷ ys')) a (subst (λ l. AllZip R xs l) b h) in (t.0, t.1)

  pub zip_no_left : {P : Type 0} (xs : List A) (ys ys' : List B) (y : B) → xs ≡ [] → ys ≡ y ∷ ys' → AllZip R xs ys → P
  zip_no_left xs ys ys' y a b h = let t : AllZip R [] (y ∷ ys') = subst (λ l. AllZip R l (y ∷ ys')) a (subst (λ l. AllZip R xs l) b h) in absurd t

  pub zip_none : (xs : List A) (ys : List B) → ys ≡ [] → AllZip R xs ys → xs ≡ []
  zip_none [] ys e h = refl
  zip_none (x ∷ xs) ys e h = let t : AllZip R (x ∷ xs) [] = subst (λ l. AllZip R (x ∷ xs) l) e h in absurd t
