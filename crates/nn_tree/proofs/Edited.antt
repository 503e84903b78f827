-- The rows of a namespace after an edit of its tree.
use Rattle.std.proofs.Common.{◌≡◌, ℕ, cond, not, List, [], ◌∷◌, ◌++◌, Option, Some, None, refl, sym, ap, ◌∙◌, inl, inr, ◌&&◌}
use Rattle.std.specs.Prelude.{filter, T}
use Rattle.std.specs.Prelude.{bytes_eq}
use Rattle.std.specs.Ordering.{eq_by_cmp}
use Rattle.std.proofs.lemmas.Bool.{cases_Bool}
use Rattle.std.specs.FinMap.Entries.{put, find-put, is_sorted, is_sorted-put, is_sorted-where_key}
use Rattle.nn_model.specs.Namespace.{path_cmp, begins_with}
use Rattle.nn_model.specs.Apply.{in_path_order}
use Rattle.nn_model.proofs.Lookups.{paths_total, same_rows, find_in_order, lookup_delete}
use Rattle.nn_model.proofs.Wells.{sorted_in_order, to_T}
use Rattle.nn_model.specs.declared.form.Form.{Form}
use Rattle.nn_model.specs.Namespace.{Path}
use Rattle.nn_tree.specs.At.{at, grafted, IsSubtree, IsGrafted, IsSame}
use Rattle.nn_model.proofs.Prefixes.{same, same_cons, name_same}
use Rattle.nn_tree.proofs.Maps.{graft_gone}

-- a row instead of one with nothing below it
pub graft_leaf : (f : Path → Option Form) (p : Path) (r : Form) → ((n : List ℕ) (q : Path) → f (p ++ n ∷ q) ≡ None) → (q : Path) → grafted f p (at (([], r) ∷ [])) q ≡ cond (same q p) (Some r) (f q)
graft_leaf f [] r h [] = refl
graft_leaf f [] r h (n ∷ q) = sym (h n q)
graft_leaf f (n ∷ ns) r h [] = refl
graft_leaf f (n ∷ ns) r h (x ∷ q) =
    let tested = same_cons x n q ns in
    elim (cases_Bool (bytes_eq n x)) [
      | inl e ↦ ap (λ b. cond b (grafted (λ y. f (n ∷ y)) ns (at (([], r) ∷ [])) q) (f (x ∷ q))) e ∙ graft_leaf (λ y. f (n ∷ y)) ns r h q
          ∙ ap (λ y. cond (same q ns) (Some r) (f (y ∷ q))) (name_same n x e) ∙ ap (λ b. cond b (Some r) (f (x ∷ q))) (sym (tested ∙ ap (λ b. b && same q ns) e))
      | inr e ↦ ap (λ b. cond b (grafted (λ y. f (n ∷ y)) ns (at (([], r) ∷ [])) q) (f (x ∷ q))) e ∙ ap (λ b. cond b (Some r) (f (x ∷ q))) (sym (tested ∙ ap (λ b. b && same q ns) e))
    ]

sorted : (es : List (Path × Form)) → T (is_sorted path_cmp (in_path_order es))
sorted es = to_T _ (sorted_in_order es)

-- a tree with a row at p instead of what was there
pub put_there : (es new : List (Path × Form)) (p : Path) (r : Form) → ((q : Path) → at new q ≡ cond (same q p) (Some r) (at es q)) → in_path_order new ≡ put path_cmp p r (in_path_order es)
put_there es new p r h =
    same_rows (in_path_order new) (put path_cmp p r (in_path_order es)) (sorted new) (is_sorted-put path_cmp paths_total p r (in_path_order es) (sorted es))
    (λ q. find_in_order q new ∙ h q ∙ sym (find-put path_cmp paths_total q p r (in_path_order es) ∙ ap (λ o. cond (eq_by_cmp path_cmp q p) (Some r) o) (find_in_order q es)))

pub same_there : (es new : List (Path × Form)) → IsSame es new → in_path_order new ≡ in_path_order es
same_there es new h = same_rows (in_path_order new) (in_path_order es) (sorted new) (sorted es) (λ q. find_in_order q new ∙ h q ∙ sym (find_in_order q es))

pub gone_there : (es new : List (Path × Form)) (p : Path) → IsGrafted es p None new → in_path_order new ≡ filter (λ row. not (begins_with p row.0)) (in_path_order es)
gone_there es new p h =
    same_rows (in_path_order new) (filter (λ row. not (begins_with p row.0)) (in_path_order es)) (sorted new) (is_sorted-where_key path_cmp (λ q. not (begins_with p q)) (in_path_order es) (sorted es))
    (λ q. find_in_order q new ∙ h q ∙ graft_gone (at es) p q
    ∙ sym (lookup_delete (in_path_order es) p q ∙ ap (λ o. cond (not (begins_with p q)) o None) (find_in_order q es)))

-- ---- a file instead of a file
only : (f : Path → Option Form) (p : Path) (x : Form) → ((q : Path) → f (p ++ q) ≡ at (([], x) ∷ []) q) → (n : List ℕ) (q : Path) → f (p ++ n ∷ q) ≡ None
only f p x h n q = h (n ∷ q)

pub set_once : (es mid : List (Path × Form)) (p : Path) (x y : Form) → IsSubtree es p (Some (([], x) ∷ [])) → IsGrafted es p (Some (([], y) ∷ [])) mid → (q : Path) → at mid q ≡ cond (same q p) (Some y) (at es q)
set_once es mid p x y h k q = k q ∙ graft_leaf (at es) p y (only (at es) p x h) q
