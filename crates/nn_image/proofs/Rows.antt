-- What a well formed namespace says of each row and of the rows before it.
use Rattle.std.proofs.Common.{◌≡◌, ℕ, ◌≤◌, List, [], ◌∷◌, ◌++◌, map, Bool, true, false, cond, eqb, leb, not, ◌&&◌, ◌||◌, ◌⊎◌, inl, inr, Some, None, refl, sym, ap, ◌∙◌, arith, append_assoc, subst, leb-true}
use Rattle.std.specs.Prelude.{T}
use Rattle.std.specs.List.{list_all}
use Rattle.std.specs.Ordering.{nat_cmp, is_lt, is_eq, eq_by_cmp}
use Rattle.std.specs.declared.cmp.Ordering.{Ordering}
use Rattle.std.specs.declared.cmp.Ordering.TheVariants.{Less, Equal, Greater}
use Rattle.std.specs.Cmp.{IsTotalOrder, nat_cmp_total, tied_itself}
use Rattle.std.specs.Cmp.Lexicographic.{slice_cmp, lists_total}
use Rattle.std.specs.FinMap.Entries.{find as find_entry, is_sorted, below_all}
use Rattle.nn_types.specs.declared.block.Block.{Block}
use Rattle.nn_model.specs.declared.form.Form.{Form}
use Rattle.nn_model.specs.declared.form.Form.TheVariants.{Dir, File}
use Rattle.nn_model.specs.Namespace.{Path, path_cmp, Namespace, blocks_of}
use Rattle.nn_model.proofs.Dues.{blocks_in}
use Rattle.nn_image.specs.Reading.{with_rows}
use Rattle.nn_tree.specs.Restore.{parent_of, is_issued, block_fits, once, form_fits, row_fits}
use Rattle.nn_model.specs.Apply.{has_id}
use Rattle.nn_model.specs.WellFormed.{Includes}
use Rattle.nn_image.proofs.Keeps.{file_fits, Keeps}
use Rattle.nn_image.specs.Reading.{last_path}
use Rattle.nn_image.proofs.Shapes.{AreShort, IsShortBlock, AreShortBlocks, IsShortForm}

abbrev pub Rows : Type 0
Rows = List (Path × Form)

pub names_total : IsTotalOrder (slice_cmp nat_cmp)
names_total = lists_total nat_cmp_total

pub paths_total : IsTotalOrder path_cmp
paths_total = lists_total names_total

pub and_true : (a b : Bool) → (a && b) ≡ true → (a ≡ true) × (b ≡ true)
and_true true b e = (refl, e)
and_true false b e = absurd (cc)

pub true_of : (b : Bool) → T b → b ≡ true
true_of true h = refl
true_of false h = absurd h

pub T_of : (b : Bool) → b ≡ true → T b
T_of true h = tt
T_of false h = absurd (cc)

pub and_T : (a b : Bool) → T (a && b) → T a × T b
and_T true b h = (tt, h)
and_T false b h = absurd h

pub T_and : (a b : Bool) → T a → T b → T (a && b)
T_and true b h k = k
T_and false b h k = absurd h

pub less_of : (r : Ordering) → T (is_lt r) → r ≡ Less
less_of Less h = refl
less_of Equal h = absurd h
less_of Greater h = absurd h

-- ---- the order

below_trans : (p q : Path) (rows : Rows) → path_cmp p q ≡ Less → T (below_all path_cmp q rows) → T (below_all path_cmp p rows)
below_trans p q [] e h = tt
below_trans p q (row ∷ rows) e h =
    let both = and_T (is_lt (path_cmp q row.0)) _ h in
    let less : path_cmp p row.0 ≡ Less = paths_total.trans p q row.0 e (less_of (path_cmp q row.0) both.0) in
    T_and (is_lt (path_cmp p row.0)) _ (subst (λ r. T (is_lt r)) (sym less) tt) (below_trans p q rows e both.1)

none_below : (q : Path) (rows : Rows) → T (below_all path_cmp q rows) → find_entry path_cmp q rows ≡ None
none_below q [] h = refl
none_below q (row ∷ rows) h =
    let both = and_T (is_lt (path_cmp q row.0)) _ h in
    ap (λ r. cond (is_eq r) (Some row.1) (find_entry path_cmp q rows)) (less_of _ both.0) ∙ none_below q rows both.1

-- the root is the first row
pub root_first : (rows : Rows) → T (is_sorted path_cmp rows) → find_entry path_cmp [] rows ≡ Some Dir → (rest : Rows) × (rows ≡ ([], Dir) ∷ rest)
root_first [] sorted e = absurd (cc)
root_first (([], form) ∷ rest) sorted e = let same : form ≡ Dir = cc in (rest, ap (λ f. ([], f) ∷ rest) same)
root_first ((name ∷ p, form) ∷ rest) sorted e =
    let both = and_T (below_all path_cmp (name ∷ p) rest) _ sorted in
    let none : find_entry path_cmp [] ((name ∷ p, form) ∷ rest) ≡ None = none_below [] ((name ∷ p, form) ∷ rest) (below_trans [] (name ∷ p) rest refl both.0) in
    absurd (cc)

-- a path below a row is found before it
pub find_prefix : (q : Path) (before : Rows) (row : Path × Form) (rest : Rows) → T (is_sorted path_cmp (before ++ row ∷ rest)) → path_cmp q row.0 ≡ Less
    → find_entry path_cmp q (before ++ row ∷ rest) ≡ find_entry path_cmp q before
find_prefix q [] row rest sorted e =
    let both = and_T (below_all path_cmp row.0 rest) _ sorted in
    none_below q (row ∷ rest) (T_and (is_lt (path_cmp q row.0)) _ (subst (λ r. T (is_lt r)) (sym e) tt) (below_trans q row.0 rest e both.0))
find_prefix q (x ∷ before) row rest sorted e =
    ap (cond (eq_by_cmp path_cmp q x.0) (Some x.1)) (find_prefix q before row rest (and_T (below_all path_cmp x.0 (before ++ row ∷ rest)) _ sorted).1 e)

-- the last path before a row is less
pub last_less : (first : Path × Form) (before : Rows) (row : Path × Form) (rest : Rows) → T (is_sorted path_cmp ((first ∷ before) ++ row ∷ rest))
    → path_cmp (last_path (first ∷ before)) row.0 ≡ Less
last_less first [] row rest sorted =
    let both = and_T (below_all path_cmp first.0 (row ∷ rest)) _ sorted in
    less_of _ (and_T (is_lt (path_cmp first.0 row.0)) _ both.0).0
last_less first (next ∷ before) row rest sorted = last_less next before row rest (and_T (below_all path_cmp first.0 ((next ∷ before) ++ row ∷ rest)) _ sorted).1

pub parent_less : (last p : Path) → path_cmp last p ≡ Less → path_cmp (parent_of p) p ≡ Less
parent_less [] [] e = absurd (cc)
parent_less (name ∷ last) [] e = absurd (cc)
parent_less last (name ∷ p) e = below name p
  where
    below : (name : List ℕ) (p : Path) → path_cmp (parent_of (name ∷ p)) (name ∷ p) ≡ Less
    below name [] = refl
    below name (next ∷ p) = rw (tied_itself names_total name) (below next p)

-- ---- blocks

pub has_mid : {A : Type 0} (before : List A) (x : A) (rest : List A) → Includes (before ++ x ∷ rest) x
has_mid [] x rest = inl refl
has_mid (y ∷ before) x rest = inr (has_mid before x rest)

has_left : {A : Type 0} (xs ys : List A) (x : A) → Includes xs x → Includes (xs ++ ys) x
has_left [] ys x h = absurd h
has_left (y ∷ xs) ys x h = elim h as (λ _. (y ≡ x) ⊎ Includes (xs ++ ys) x) [ inl e ↦ inl e | inr k ↦ inr (has_left xs ys x k) ]

has_right : {A : Type 0} (xs ys : List A) (x : A) → Includes ys x → Includes (xs ++ ys) x
has_right [] ys x h = h
has_right (y ∷ xs) ys x h = inr (has_right xs ys x h)

pub has_block : (before : Rows) (row : Path × Form) (rest : Rows) (b : Block) → Includes (blocks_of row.1) b → Includes (blocks_in (before ++ row ∷ rest)) b
has_block [] row rest b h = has_left (blocks_of row.1) (blocks_in rest) b h
has_block (x ∷ before) row rest b h = has_right (blocks_of x.1) _ b (has_block before row rest b h)

pub all_of : (p : Block → Bool) (bs : List Block) → ((b : Block) → Includes bs b → p b ≡ true) → list_all p bs ≡ true
all_of p [] h = refl
all_of p (b ∷ bs) h = rw (h b (inl refl)) (all_of p bs (λ c k. h c (inr k)))

pub short_of : (bs : List Block) → ((b : Block) → Includes bs b → IsShortBlock b) → AreShortBlocks bs
short_of [] h = tt
short_of (b ∷ bs) h = (h b (inl refl), short_of bs (λ c k. h c (inr k)))

or_false : (a b : Bool) → (a || b) ≡ false → (a ≡ false) × (b ≡ false)
or_false true b e = absurd (cc)
or_false false b e = (refl, e)

not_true : (b : Bool) → not b ≡ true → b ≡ false
not_true true e = absurd (cc)
not_true false e = refl

id_prefix : (xs ys : List Block) (i : ℕ) → has_id (map (λ c. c.id) (xs ++ ys)) i ≡ false → has_id (map (λ c. c.id) xs) i ≡ false
id_prefix [] ys i e = refl
id_prefix (x ∷ xs) ys i e = let both = or_false (eqb x.id i) _ e in rw both.0 (id_prefix xs ys i both.1)

pub once_prefix : (xs ys : List Block) → once (xs ++ ys) ≡ true → once xs ≡ true
once_prefix [] ys e = refl
once_prefix (x ∷ xs) ys e =
    let both = and_true (not (has_id (map (λ c. c.id) (xs ++ ys)) x.id)) _ e in
    rw (id_prefix xs ys x.id (not_true _ both.0)) (once_prefix xs ys both.1)

pub blocks_mid : (before : Rows) (row : Path × Form) (rest : Rows) → blocks_in (before ++ row ∷ rest) ≡ (blocks_in before ++ blocks_of row.1) ++ blocks_in rest
blocks_mid [] row rest = refl
blocks_mid (x ∷ before) row rest =
    ap (λ bs. blocks_of x.1 ++ bs) (blocks_mid before row rest) ∙ sym (append_assoc (blocks_of x.1) (blocks_in before ++ blocks_of row.1) (blocks_in rest))
    ∙ ap (λ bs. bs ++ blocks_in rest) (sym (append_assoc (blocks_of x.1) (blocks_in before) (blocks_of row.1)))

-- ---- a row of a well formed namespace

module _ (n : Namespace) (w : Keeps n) where
  pub short_block : (b : Block) → Includes (blocks_in n.rows) b → IsShortBlock b
  short_block b h =
      let fits = and_true _ (leb b.stamp n.issued.last_stamp) (w.issued b h) in
      let issued = and_true (is_issued n.issued.last_block b.id) (not (has_id n.issued.awaiting b.id)) (and_true (is_issued n.issued.last_block b.id && not (has_id n.issued.awaiting b.id)) (leb 1001 b.stamp) fits.0).0 in
      let id_to : b.id ≤ n.issued.last_block = leb-true b.id n.issued.last_block (and_true (leb 1073741825 b.id) (leb b.id n.issued.last_block) issued.0).1 in
      let stamp_to : b.stamp ≤ n.issued.last_stamp = leb-true b.stamp n.issued.last_stamp fits.1 in
      (omega (arith, w.last_block_to), omega (arith, w.last_stamp_to), w.lengths b h)

  short_ids : (ids : List ℕ) → list_all (is_issued n.issued.last_block) ids ≡ true → AreShort ids
  short_ids [] e = tt
  short_ids (i ∷ ids) e =
      let both = and_true (is_issued n.issued.last_block i) _ e in
      let to : i ≤ n.issued.last_block = leb-true i n.issued.last_block (and_true (leb 1073741825 i) _ both.0).1 in
      (omega (arith, w.last_block_to), short_ids ids both.1)

  pub short_awaiting : AreShort n.issued.awaiting
  short_awaiting = short_ids n.issued.awaiting (and_true (list_all (is_issued n.issued.last_block) n.issued.awaiting) _ w.awaiting).0

  module _ (before : Rows) (row : Path × Form) (rest : Rows) (same : n.rows ≡ before ++ row ∷ rest) where
    row_has : Includes n.rows row
    row_has = subst (λ rows. Includes rows row) (sym same) (has_mid before row rest)

    block_has : (b : Block) → Includes (blocks_of row.1) b → Includes (blocks_in n.rows) b
    block_has b h = subst (λ rows. Includes (blocks_in rows) b) (sym same) (has_block before row rest b h)

    pub short_form : IsShortForm row.1
    short_form = at row.1 (w.replications row row_has) (λ b h. short_block b (block_has b h))
      where
        at : (form : Form) → file_fits form → ((b : Block) → Includes (blocks_of form) b → IsShortBlock b) → IsShortForm form
        at Dir h k = tt
        at (File file) h k =
            let to : file.replication ≤ 512 = leb-true file.replication 512 (and_true (leb 1 file.replication) _ h).1 in
            (short_of file.blocks k, h, omega arith)

    pub mid_sorted : T (is_sorted path_cmp (before ++ row ∷ rest))
    mid_sorted = subst (λ rows. T (is_sorted path_cmp rows)) same (T_of (is_sorted path_cmp n.rows) w.in_order)

    once_before : once (blocks_in before ++ blocks_of row.1) ≡ true
    once_before = once_prefix (blocks_in before ++ blocks_of row.1) (blocks_in rest) (ap once (sym (ap blocks_in same ∙ blocks_mid before row rest)) ∙ w.once)

    pub fits_here : path_cmp (parent_of row.0) row.0 ≡ Less → row_fits (with_rows n before) row.0 row.1 ≡ true
    fits_here less =
        let parent : find_entry path_cmp (parent_of row.0) before ≡ Some Dir =
        sym (find_prefix (parent_of row.0) before row rest mid_sorted less) ∙ ap (find_entry path_cmp (parent_of row.0)) (sym same) ∙ w.parents row row_has in
        rw parent (at row.1 (w.replications row row_has) (λ b h. w.issued b (block_has b h)) once_before)
      where
        at : (form : Form) → file_fits form → ((b : Block) → Includes (blocks_of form) b → block_fits n.issued b ≡ true) → once (blocks_in before ++ blocks_of form) ≡ true → form_fits (with_rows n before) form ≡ true
        at Dir h k e = refl
        at (File file) h k e = rw (h, all_of (block_fits n.issued) file.blocks k, e) refl
