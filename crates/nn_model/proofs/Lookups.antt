-- What stands at a path after an edit, and that namespaces with the same look-ups have the same rows.
use Rattle.std.proofs.Common.{◌≡◌, cond, not, List, [], ◌∷◌, Some, None, refl, sym, ap, ◌∙◌}
use Rattle.std.specs.Prelude.{filter, T}
use Rattle.std.specs.Ordering.{eq_by_cmp}
use Rattle.std.specs.Cmp.{IsTotalOrder, nat_cmp_total}
use Rattle.std.specs.Cmp.Lexicographic.{lists_total}
use Rattle.std.specs.FinMap.{IsAntisymmetric, nat_cmp-IsAntisymmetric, slice_cmp-IsAntisymmetric}
use Rattle.std.specs.FinMap.Entries.{find as find_entry, find-put, find-where_key, same_entries, is_sorted}
use Rattle.nn_model.specs.declared.form.Form.{Form}
use Rattle.nn_model.specs.Namespace.{Path, path_cmp, Namespace, lookup, with_row, begins_with}
use Rattle.nn_model.specs.Apply.{in_path_order}

pub paths_total : IsTotalOrder path_cmp
paths_total = lists_total (lists_total nat_cmp_total)

pub paths_apart : IsAntisymmetric path_cmp
paths_apart = slice_cmp-IsAntisymmetric (slice_cmp-IsAntisymmetric nat_cmp-IsAntisymmetric)

-- two lists of rows in path order with the same look-ups are one
pub same_rows : (rows others : List (Path × Form)) → T (is_sorted path_cmp rows) → T (is_sorted path_cmp others) →
    ((q : Path) → find_entry path_cmp q rows ≡ find_entry path_cmp q others) → rows ≡ others
same_rows rows others s o same = same_entries path_cmp paths_total paths_apart rows others s o same

pub lookup_put : (n : Namespace) (p q : Path) (form : Form) → lookup (with_row n p form) q ≡ cond (eq_by_cmp path_cmp q p) (Some form) (lookup n q)
lookup_put n p q form = find-put path_cmp paths_total q p form n.rows

pub lookup_delete : (rows : List (Path × Form)) (p q : Path) →
    find_entry path_cmp q (filter (λ row. not (begins_with p row.0)) rows) ≡ cond (not (begins_with p q)) (find_entry path_cmp q rows) None
lookup_delete rows p q = find-where_key path_cmp (λ x. not (begins_with p x)) q (λ x e. ap (λ y. not (begins_with p y)) (sym (paths_apart q x e))) rows

pub find_in_order : (q : Path) (rows : List (Path × Form)) → find_entry path_cmp q (in_path_order rows) ≡ find_entry path_cmp q rows
find_in_order q [] = refl
find_in_order q (row ∷ rows) =
    find-put path_cmp paths_total q row.0 row.1 (in_path_order rows) ∙ ap (cond (eq_by_cmp path_cmp q row.0) (Some row.1)) (find_in_order q rows)
