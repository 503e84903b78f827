-- A listing goes on child by child.
use Rattle.std.proofs.Common.{◌≡◌, ℕ, List, [], ◌∷◌, ◌++◌, refl, sym, ap, ◌∙◌, true, Some}
use Rattle.std.specs.FinMap.Entries.{is_sorted}
use Rattle.nn_model.specs.Namespace.{Path, path_cmp}
use Rattle.nn_model.specs.Apply.{in_path_order}
use Rattle.nn_model.specs.declared.form.Form.{Form}
use Rattle.nn_model.proofs.Lookups.{same_rows, find_in_order}
use Rattle.nn_model.proofs.Wells.{sorted_in_order, to_T}
use Rattle.nn_tree.specs.At.{at}
use Rattle.nn_tree.specs.Flat.{under, under_all}

under-append : (n : List ℕ) (xs ys : List (Path × Form)) → under n (xs ++ ys) ≡ under n xs ++ under n ys
under-append n [] ys = refl
under-append n (x ∷ xs) ys = ap (λ r. (n ∷ x.0, x.1) ∷ r) (under-append n xs ys)

pub under_all-append : (p : Path) (xs ys : List (Path × Form)) → under_all p (xs ++ ys) ≡ under_all p xs ++ under_all p ys
under_all-append [] xs ys = refl
under_all-append (n ∷ p) xs ys = ap (under n) (under_all-append p xs ys) ∙ under-append n (under_all p xs) (under_all p ys)

pub under_all-push : (p : Path) (n : List ℕ) (es : List (Path × Form)) → under_all (p ++ n ∷ []) es ≡ under_all p (under n es)
under_all-push [] n es = refl
under_all-push (m ∷ p) n es = ap (under m) (under_all-push p n es)

pub under_all-cons : (p : Path) (form : Form) (es : List (Path × Form)) → under_all p (([], form) ∷ es) ≡ (p, form) ∷ under_all p es
under_all-cons [] form es = refl
under_all-cons (n ∷ p) form es = ap (under n) (under_all-cons p form es)

-- what stands at the top is the first row
pub top_row : (es rest : List (Path × Form)) (d r : Form) → es ≡ ([], d) ∷ rest → at es [] ≡ Some r → r ≡ d
top_row es rest d r e h =
    let both : Some d ≡ Some r = ap (λ x. at x []) (sym e) ∙ h in
    cc

-- rows that are in order stay as they are
pub in_order_already : (es : List (Path × Form)) → is_sorted path_cmp es ≡ true → in_path_order es ≡ es
in_order_already es h = same_rows (in_path_order es) es (to_T _ (sorted_in_order es)) (to_T _ h) (λ q. find_in_order q es)
