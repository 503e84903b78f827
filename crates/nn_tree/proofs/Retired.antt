-- The ids that a delete collects are those of all files at its path and below.
use Rattle.std.proofs.Common.{inl, inr, ◌≡◌, ℕ, Bool, true, false, ◌&&◌, cond, List, [], ◌∷◌, ◌++◌, length, drop, Option, None, refl, sym, ap, ◌∙◌}
use Rattle.std.specs.Prelude.{filter, flat_map, bytes_eq}
use Rattle.std.proofs.lemmas.Map.Text.{is_eq-slice_cmp}
use Rattle.std.specs.FinMap.Entries.{is_sorted, find-where_key, is_sorted-where_key}
use Rattle.std.specs.Cmp.Lexicographic.{nat_list_cmp_total, nat_list_eq_equiv}
use Rattle.std.proofs.lemmas.Bool.{cases_Bool}
use Rattle.std.proofs.lemmas.Cmp.{tied_itself}
use Rattle.std.proofs.lemmas.List.{map-append}
use Rattle.nn_model.specs.Namespace.{Namespace, path_cmp, lookup, begins_with, blocks_of}
use Rattle.nn_model.specs.Touched.{ids_below}
use Rattle.nn_model.specs.Touched as touched
use Rattle.nn_model.proofs.Lookups.{same_rows, paths_apart}
use Rattle.nn_model.proofs.Wells.{to_T}
use Rattle.nn_model.specs.declared.form.Form.{Form}
use Rattle.nn_model.specs.Namespace.{Path}
use Rattle.nn_tree.specs.Flat.{under, under_all}
use Rattle.nn_tree.specs.At.{at}
use Rattle.nn_tree.specs.Ids.{ids_of_rows, row_ids}
use Rattle.nn_tree.proofs.Below.{at-under-same, at-under-other}
use Rattle.nn_tree.proofs.Ids.{ids_under}
use Rattle.nn_model.proofs.Prefixes.{name_same, begins_split}
use Rattle.nn_tree.proofs.Sorted.{sorted_under}
use Rattle.nn_tree.specs.Name.{name_cmp}

top_under : (n : List ℕ) (es : List (Path × Form)) → at (under n es) [] ≡ None
top_under n [] = refl
top_under n (e ∷ es) = top_under n es

at_under : (n x : List ℕ) (q : Path) (es : List (Path × Form)) → at (under n es) (x ∷ q) ≡ cond (bytes_eq n x) (at es q) None
at_under n x q es =
    elim (cases_Bool (bytes_eq n x)) [
      | inl e ↦ at-under-same x n q es (ap (λ y. name_cmp x y) (name_same n x e) ∙ tied_itself nat_list_cmp_total x) ∙ sym (ap (λ b. cond b (at es q) None) e)
      | inr e ↦ at-under-other x n q es (is_eq-slice_cmp x n ∙ nat_list_eq_equiv.symm x n ∙ e) ∙ sym (ap (λ b. cond b (at es q) None) e)
    ]

cond_both : (a b : Bool) (o : Option Form) → cond a (cond b o None) None ≡ cond (a && b) o None
cond_both true b o = refl
cond_both false b o = refl

at_under_all : (p q : Path) (t : List (Path × Form)) → at (under_all p t) q ≡ cond (begins_with p q) (at t (drop (length p) q)) None
at_under_all [] q t = refl
at_under_all (n ∷ p) [] t = top_under n (under_all p t)
at_under_all (n ∷ p) (x ∷ q) t =
    at_under n x q (under_all p t) ∙ ap (λ o. cond (bytes_eq n x) o None) (at_under_all p q t)
    ∙ cond_both (bytes_eq n x) (begins_with p q) (at t (drop (length p) q))

sorted_under_all : (p : Path) (t : List (Path × Form)) → is_sorted path_cmp (under_all p t) ≡ is_sorted path_cmp t
sorted_under_all [] t = refl
sorted_under_all (n ∷ p) t = sorted_under n (under_all p t) ∙ sorted_under_all p t

ids_under_all : (p : Path) (t : List (Path × Form)) → ids_of_rows (under_all p t) ≡ ids_of_rows t
ids_under_all [] t = refl
ids_under_all (n ∷ p) t = ids_under n (under_all p t) ∙ ids_under_all p t

ids_are : (es : List (Path × Form)) → touched.ids_of (flat_map (λ row. blocks_of row.1) es) ≡ ids_of_rows es
ids_are [] = refl
ids_are (e ∷ es) = map-append (λ b. b.id) (blocks_of e.1) (flat_map (λ row. blocks_of row.1) es) ∙ ap (λ ids. row_ids e.1 ++ ids) (ids_are es)

-- the rows at p and below are those of the tree there
pub rows_below : (n : Namespace) (p : Path) (t : List (Path × Form)) → is_sorted path_cmp n.rows ≡ true → is_sorted path_cmp t ≡ true → ((q : Path) → lookup n (p ++ q) ≡ at t q) →
    filter (λ row. begins_with p row.0) n.rows ≡ under_all p t
rows_below n p t rows_sorted sorted sub =
    same_rows (filter (λ row. begins_with p row.0) n.rows) (under_all p t) (is_sorted-where_key path_cmp (λ q. begins_with p q) n.rows (to_T _ rows_sorted)) (to_T _ (sorted_under_all p t ∙ sorted))
    (λ q. find-where_key path_cmp (λ x. begins_with p x) q (λ x e. ap (begins_with p) (sym (paths_apart q x e))) n.rows
    ∙ elim (cases_Bool (begins_with p q)) [
      | inl e ↦ ap (λ b. cond b (lookup n q) None) e ∙ ap (lookup n) (begins_split p q e) ∙ sub (drop (length p) q) ∙ sym (ap (λ b. cond b (at t (drop (length p) q)) None) e)
      | inr e ↦ ap (λ b. cond b (lookup n q) None) e ∙ sym (ap (λ b. cond b (at t (drop (length p) q)) None) e)
    ]
    ∙ sym (at_under_all p q t))

pub ids_collected : (n : Namespace) (p : Path) (t : List (Path × Form)) → is_sorted path_cmp n.rows ≡ true → is_sorted path_cmp t ≡ true → ((q : Path) → lookup n (p ++ q) ≡ at t q) → ids_of_rows t ≡ ids_below n p
ids_collected n p t rows_sorted sorted sub =
    sym (ap (λ rows. touched.ids_of (flat_map (λ row. blocks_of row.1) rows)) (rows_below n p t rows_sorted sorted sub) ∙ ids_are (under_all p t) ∙ ids_under_all p t)
