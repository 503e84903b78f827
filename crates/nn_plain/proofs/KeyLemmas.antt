-- The key of a name, and a member that is put to others.
use Rattle.std.proofs.Common.{◌≡◌, ℕ, List, [], ◌∷◌, Bool, true, false, cond, bytes_eq, Option, Some, None, ◌⊎◌, inl, inr, refl, sym, ap, ◌∙◌}
use Rattle.std.proofs.lemmas.Bool.{false≢true}
use Rattle.std.proofs.lemmas.Slice.Eq.{bytes_eq-Decides}
use Rattle.serde_json.specs.Data.{Data, Members, object, put}
use Rattle.serde_json.specs.Find.{get}
use Rattle.serde_json.proofs.Views.{get_member-put, get_member-put_other}
use Rattle.nn_plain.specs.Keys.{first_named}

module _ {K : Type 0} (text : K → List ℕ) where
  chosen : (b : Bool) (k x : K) (o : Option K) → cond b (Some k) o ≡ Some x → ((b ≡ true) × (k ≡ x)) ⊎ (o ≡ Some x)
  chosen true k x o e = let same : k ≡ x = cc in inl (refl, same)
  chosen false k x o e = inr e

  pub some_named : (name : List ℕ) (ks : List K) (x : K) → first_named text name ks ≡ Some x → name ≡ text x
  some_named name [] x e = absurd (cc)
  some_named name (k ∷ ks) x e = either (chosen (bytes_eq name (text k)) k x (first_named text name ks) e) (some_named name ks x)
    where
      either : ((bytes_eq name (text k) ≡ true) × (k ≡ x)) ⊎ (first_named text name ks ≡ Some x) → (first_named text name ks ≡ Some x → name ≡ text x) → name ≡ text x
      either (inl same) later = (bytes_eq-Decides name (text k)).0 same.0 ∙ ap text same.1
      either (inr e) later = later e

  passed : (b : Bool) (k : K) (o : Option K) → cond b (Some k) o ≡ None → (b ≡ false) × (o ≡ None)
  passed true k o e = absurd (cc)
  passed false k o e = (refl, e)

  abbrev pub NoneNamed : List ℕ → List K → Type 0
  NoneNamed name [] = Unit {0}
  NoneNamed name (k ∷ ks) = (bytes_eq name (text k) ≡ false) × NoneNamed name ks

  pub none_named : (name : List ℕ) (ks : List K) → first_named text name ks ≡ None → NoneNamed name ks
  none_named name [] e = tt
  none_named name (k ∷ ks) e = let both = passed (bytes_eq name (text k)) k (first_named text name ks) e in (both.0, none_named name ks both.1)

pub member_put : {X : Type 0} (f : Option Data → X) (q k : List ℕ) (d : Data) (ms : Members) → f (get q (object (put k d ms))) ≡ cond (bytes_eq k q) (f (Some d)) (f (get q (object ms)))
member_put {X = X} f q k d ms = at (bytes_eq k q) refl
  where
    at : (t : Bool) → bytes_eq k q ≡ t → f (get q (object (put k d ms))) ≡ cond t (f (Some d)) (f (get q (object ms)))
    at true e = let same = (bytes_eq-Decides k q).0 e in ap (λ (x : List ℕ). f (get x (object (put k d ms)))) (sym same) ∙ ap f (get_member-put k d ms)
    at false e = ap f (get_member-put_other q k d ms (λ (h : q ≡ k). false≢true (sym e ∙ (bytes_eq-Decides k q).1 (sym h))))
