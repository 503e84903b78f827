-- The directories on the way to a row, and what is left in them.
use Rattle.std.proofs.Common.{◌≡◌, ℕ, suc, ◌+◌, ◌-◌, ◌≤◌, ◌<◌, max, List, [], ◌∷◌, ◌++◌, length, take, drop, Option, Some, None, refl, sym, ap, ◌∙◌, subst, append_assoc, append-nil, length-append, arith, Bor}
use Rattle.std.specs.Prelude.{IsSome, option_to_list}
use Rattle.std.specs.List.{slice_get, slice_index_or, slice_set}
use Rattle.std.specs.Map.Iter.{deref}
use Rattle.std.proofs.lemmas.List.{take-append-le, length-take-le, take-append-drop, take_all, take-map, map-append}
use Rattle.nn_model.specs.declared.form.Form.{Form}
use Rattle.nn_model.specs.Namespace.{Path}
use Rattle.nn_tree.specs.At.{at}
use Rattle.nn_tree.specs.Rows.{IsRooted, Past, greatest_depth, later_of, entries_of, all_entries, opened, root_rows, rows_open}
use Rattle.nn_tree.specs.Flat.{under, under_all, below}
use Rattle.nn_tree.specs.Listing.{lent_names}
use Rattle.nn_tree.specs.Nesting.{Nest, IsAtStart, IsNested}
use Rattle.nn_tree.specs.declared.tree.children.Children.{Children}
use Rattle.nn_tree.specs.declared.rows.OpenDir.{OpenDir}
use Rattle.nn_tree.proofs.Listings.{under_all-append, under_all-push, under_all-cons, top_row}

abbrev Rows : Type 0
Rows = List (Path × Form)

-- ---- Names that stay.

take_prefix : (d high : ℕ) (names more : Path) → d ≤ high → high ≤ length names → take d (take high names ++ more) ≡ take d names
take_prefix d high names more h k =
    let prefix : d ≤ length (take high names) = omega (arith, h, length-take-le high names k) in
    take-append-le d (take high names) more prefix ∙ sym (take-append-le d (take high names) (drop high names) prefix) ∙ ap (take d) (take-append-drop high names)

nest_bound : (names : Path) (low high : ℕ) (dirs : List OpenDir) → Nest names low high dirs → low ≤ high
nest_bound names low high [] n = n
nest_bound names low high (o ∷ dirs) n = omega (arith, n.0, nest_bound names (o.depth + 1) high dirs n.1)

nest_count : (names : Path) (low high : ℕ) (dirs : List OpenDir) → Nest names low high dirs → low + length dirs ≤ high
nest_count names low high [] n = omega (arith, n)
nest_count names low high (o ∷ dirs) n = omega (arith, n.0, nest_count names (o.depth + 1) high dirs n.1)

nest_last : (names : Path) (low high : ℕ) (dirs : List OpenDir) (o : OpenDir) → Nest names low high (dirs ++ o ∷ [])
    → Nest names low o.depth dirs × (o.depth + 1 ≤ high)
nest_last names low high [] o n = n
nest_last names low high (d ∷ dirs) o n = let l = nest_last names (d.depth + 1) high dirs o n.1 in ((n.0, l.0), l.1)

nest_push : (names : Path) (low high : ℕ) (dirs : List OpenDir) (o : OpenDir) → Nest names low high dirs → high ≤ o.depth → Nest names low (o.depth + 1) (dirs ++ o ∷ [])
nest_push names low high [] o n h = (omega (arith, n, h), omega arith)
nest_push names low high (d ∷ dirs) o n h = (n.0, nest_push names (d.depth + 1) high dirs o n.1 h)

pub nest_wider : (names : Path) (low high wide : ℕ) (dirs : List OpenDir) → Nest names low high dirs → high ≤ wide → Nest names low wide dirs
nest_wider names low high wide [] n h = omega (arith, n, h)
nest_wider names low high wide (d ∷ dirs) n h = (n.0, nest_wider names (d.depth + 1) high wide dirs n.1 h)

pub nest_opened : (names : Path) (high depth : ℕ) (dirs : List OpenDir) (children : Option Children) → Nest names 0 high dirs → high ≤ depth
    → Nest names 0 (depth + 1) (dirs ++ opened depth children)
nest_opened names high depth dirs None n h = subst (Nest names 0 (depth + 1)) (sym (append-nil dirs)) (nest_wider names 0 high (depth + 1) dirs n (omega (arith, h)))
nest_opened names high depth dirs (Some children) n h = nest_push names 0 high dirs (record { depth = depth; children = children }) n h

pub nest_kept : (names more : Path) (low high : ℕ) (dirs : List OpenDir) → Nest names low high dirs → high ≤ length names → Nest (take high names ++ more) low high dirs
nest_kept names more low high [] n h = n
nest_kept names more low high (o ∷ dirs) n h =
    (n.0, nest_kept names more (o.depth + 1) high dirs n.1 h)

pub rows_kept : (names more : Path) (low high : ℕ) (dirs : List OpenDir) → Nest names low high dirs → high ≤ length names → rows_open (take high names ++ more) dirs ≡ rows_open names dirs
rows_kept names more low high [] n h = refl
rows_kept names more low high (o ∷ dirs) n h =
    let deep = nest_bound names (o.depth + 1) high dirs n.1 in
    (λ j. rows_kept names more (o.depth + 1) high dirs n.1 h j ++ under_all (take_prefix o.depth high names more (omega (arith, deep)) h j) (below (entries_of o.children)))

-- ---- The innermost directory comes first.

pub under_all_none : (p : Path) → under_all p [] ≡ []
under_all_none [] = refl
under_all_none (n ∷ p) = ap (under n) (under_all_none p)

rows_last : (names : Path) (dirs : List OpenDir) (o : OpenDir) → rows_open names (dirs ++ o ∷ []) ≡ under_all (take o.depth names) (below (entries_of o.children)) ++ rows_open names dirs
rows_last names [] o = sym (append-nil (under_all (take o.depth names) (below (entries_of o.children))))
rows_last names (d ∷ dirs) o =
    let own = under_all (take d.depth names) (below (entries_of d.children)) in
    ap (λ r. r ++ own) (rows_last names dirs o) ∙ append_assoc (under_all (take o.depth names) (below (entries_of o.children))) (rows_open names dirs) own

pub rows_opened : (names : Path) (dirs : List OpenDir) (depth : ℕ) (children : Option Children)
    → rows_open names (dirs ++ opened depth children) ≡ under_all (take depth names) (below (all_entries children)) ++ rows_open names dirs
rows_opened names dirs depth None = ap (rows_open names) (append-nil dirs) ∙ ap (λ r. r ++ rows_open names dirs) (sym (under_all_none (take depth names)))
rows_opened names dirs depth (Some children) = rows_last names dirs (record { depth = depth; children = children })

-- ---- One step of a walk: the first child of the innermost directory.

module _ (names : Path) (all rest : List OpenDir) (dir : OpenDir) (form : Form) (inside : Option Children) where
  abbrev parent : Path
  parent = take dir.depth names

  abbrev own : Path
  own = parent ++ dir.children.name.now ∷ []

  -- the row of the child, what lies below it, what lies behind it
  first_rows : all ≡ rest ++ dir ∷ [] → dir.children.tree.now ≡ ([], form) ∷ below (all_entries inside)
      → rows_open names all ≡ (own, form) ∷ (under_all own (below (all_entries inside)) ++ (under_all parent (below (later_of dir.children.later)) ++ rows_open names rest))
  first_rows is tree =
      let k = dir.children.name.now in
      let later = below (later_of dir.children.later) in
      let child : under_all parent (under k dir.children.tree.now) ≡ (own, form) ∷ under_all own (below (all_entries inside)) =
      sym (under_all-push parent k dir.children.tree.now) ∙ ap (under_all own) tree ∙ under_all-cons own form (below (all_entries inside)) in
      ap (rows_open names) is ∙ rows_last names rest dir
      ∙ ap (λ r. r ++ rows_open names rest) (under_all-append parent (under k dir.children.tree.now) later ∙ ap (λ r. r ++ under_all parent later) child)
      ∙ ap (λ r. (own, form) ∷ r) (append_assoc (under_all own (below (all_entries inside))) (under_all parent later) (rows_open names rest))

  length-own : dir.depth ≤ length names → length own ≡ dir.depth + 1
  length-own h = omega (arith, length-append parent (dir.children.name.now ∷ []), length-take-le dir.depth names h)

  own_taken : take (length own) own ≡ own
  own_taken = take_all (length own) own (omega arith)

  parent_taken : dir.depth ≤ length names → take dir.depth own ≡ parent
  parent_taken h = take_prefix dir.depth dir.depth names (dir.children.name.now ∷ []) (omega arith) h

  module _ (behind : Option Children) (is : all ≡ rest ++ dir ∷ []) (nest : Nest names 0 (length names + 1) all) (later : all_entries behind ≡ later_of dir.children.later) where
    abbrev after : List OpenDir
    after = (rest ++ opened dir.depth behind) ++ opened (length own) inside

    step_rows : dir.children.tree.now ≡ ([], form) ∷ below (all_entries inside) → rows_open names all ≡ (own, form) ∷ rows_open own after
    step_rows tree =
        let last = nest_last names 0 (length names + 1) rest dir (subst (Nest names 0 (length names + 1)) is nest) in
        let deep : dir.depth ≤ length names = omega (arith, last.1) in
        let new : rows_open own after ≡ under_all own (below (all_entries inside)) ++ (under_all parent (below (later_of dir.children.later)) ++ rows_open names rest) =
        rows_opened own (rest ++ opened dir.depth behind) (length own) inside
        ∙ (λ j. under_all (own_taken j) (below (all_entries inside)) ++ rows_opened own rest dir.depth behind j)
        ∙ (λ j. under_all own (below (all_entries inside)) ++ (under_all (parent_taken deep j) (below (later j)) ++ rows_kept names (dir.children.name.now ∷ []) 0 dir.depth rest last.0 deep j)) in
        first_rows is tree ∙ ap (λ r. (own, form) ∷ r) (sym new)

pub none_of : {X : Type 0} (o : Option X) → ((x : X) → o ≡ Some x → ⊥) → o ≡ None
none_of None h = refl
none_of (Some x) h = absurd (h x refl)

last_split : {X : Type 0} (xs : List X) (x : X) → Some x ≡ slice_get xs (length xs - 1) → xs ≡ take (length xs - 1) xs ++ x ∷ []
last_split [] x h = absurd (cc)
last_split (y ∷ []) x h = let same : x ≡ y = cc in ap (λ z. z ∷ []) (sym same)
last_split (y ∷ z ∷ xs) x h =
    let less : length (y ∷ z ∷ xs) - 1 ≡ suc (length (z ∷ xs) - 1) = omega arith in
    ap (λ r. y ∷ r) (last_split (z ∷ xs) x (h ∙ ap (slice_get (y ∷ z ∷ xs)) less)) ∙ ap (λ k. take k (y ∷ z ∷ xs) ++ x ∷ []) (sym less)

-- the directory that was looked at is the last one
pub looked_at : {X : Type 0} (all slice : List X) (x : X) → slice ≡ all → Some x ≡ slice_get slice (length slice - 1) → all ≡ take (length all - 1) all ++ x ∷ []
looked_at all slice x e h = last_split all x (h ∙ ap (λ xs. slice_get xs (length xs - 1)) e)

get_last : {X : Type 0} (prefix : List X) (x other : X) → slice_index_or (prefix ++ x ∷ []) (length prefix) other ≡ x
get_last [] x other = refl
get_last (y ∷ prefix) x other = get_last prefix x other

set_last : {X : Type 0} (prefix : List X) (x new : X) → slice_set (prefix ++ x ∷ []) (length prefix) new ≡ prefix ++ new ∷ []
set_last [] x new = refl
set_last (y ∷ prefix) x new = ap (λ r. y ∷ r) (set_last prefix x new)

module _ (all prefix : List OpenDir) (len : ℕ) (last dir : OpenDir) (value : last ≡ slice_index_or all (len - 1) last) (counted : len ≡ length all) (split : all ≡ prefix ++ dir ∷ []) where
  place : len - 1 ≡ length prefix
  place = omega (arith, counted, ap length split, length-append prefix (dir ∷ []))

  same_dir : last ≡ dir
  same_dir = value ∙ (λ j. slice_index_or (split j) (place j) last) ∙ get_last prefix dir last

  written : (new : OpenDir) → slice_set all (len - 1) new ≡ prefix ++ new ∷ []
  written new = (λ j. slice_set (split j) (place j) new) ∙ set_last prefix dir new

  -- the innermost directory has other children
  pub past_first : (others : Children) → entries_of others ≡ later_of last.children.later → Past prefix dir (slice_set all (len - 1) (record { depth = last.depth; children = others }))
  past_first others more = (
    Some others,
    more ∙ ap (λ (d : OpenDir). later_of d.children.later) same_dir,
    written (record { depth = last.depth; children = others }) ∙ ap (λ (d : OpenDir). prefix ++ opened d.depth (Some others)) same_dir,
  )

  -- it has none, and leaves
  pub past_last : (new : OpenDir) (after : List OpenDir) → later_of last.children.later ≡ [] → after ≡ take (len - 1) (slice_set all (len - 1) new) → Past prefix dir after
  past_last new after ended left =
      let kept : take (length prefix) (prefix ++ new ∷ []) ≡ prefix = take-append-le (length prefix) prefix (new ∷ []) (omega arith) ∙ take_all (length prefix) prefix (omega arith) in (
        None,
        sym ended ∙ ap (λ (d : OpenDir). later_of d.children.later) same_dir,
        left ∙ (λ j. take (place j) (written new j)) ∙ kept ∙ sym (append-nil prefix),
      )

-- the names after a step
pub names_step : (old new : List (Bor (List ℕ))) (depth : ℕ) (name : Bor (List ℕ)) → new ≡ take depth old ++ name ∷ [] → lent_names new ≡ take depth (lent_names old) ++ name.now ∷ []
names_step old new depth name h = ap lent_names h ∙ map-append deref (take depth old) (name ∷ []) ∙ ap (λ r. r ++ name.now ∷ []) (sym (take-map deref depth old))

-- ---- What a step takes memory for.

deep_right : (xs ys : Rows) → greatest_depth ys ≤ greatest_depth (xs ++ ys)
deep_right [] ys = omega arith
deep_right (x ∷ xs) ys = omega (arith, deep_right xs ys)

deep_left : (xs ys : Rows) → greatest_depth xs ≤ greatest_depth (xs ++ ys)
deep_left [] ys = omega arith
deep_left (x ∷ xs) ys = omega (arith, deep_left xs ys)

under_all-first : (p q : Path) (form : Form) (es : Rows) → under_all p ((q, form) ∷ es) ≡ (p ++ q, form) ∷ under_all p es
under_all-first [] q form es = refl
under_all-first (n ∷ p) q form es = ap (under n) (under_all-first p q form es)

deep_child : (p : Path) (k : List ℕ) (es more : Rows) → IsSome (at es []) → length p + 1 ≤ greatest_depth (under_all p (under k es ++ more))
deep_child p k [] more h = absurd (cc)
deep_child p k (e ∷ es) more h = omega (arith, ap greatest_depth (under_all-first p (k ∷ e.0) e.1 (under k es ++ more)), length-append p (k ∷ e.0))

-- a directory's children have one name more
deep_inside : (p : Path) (inside : Option Children) → IsRooted inside → length p + length (option_to_list inside) ≤ max (length p) (greatest_depth (under_all p (below (all_entries inside))))
deep_inside p None h = omega arith
deep_inside p (Some children) h = omega (arith, deep_child p children.name.now children.tree.now (below (later_of children.later)) h)

pub root_room : (names : Path) (dirs : List OpenDir) (root : Bor Rows) (form : Form) (inside : Option Children) (left : Rows) (room len : ℕ)
    → root_rows (Some root) ++ rows_open names dirs ≡ left → IsAtStart (Some root) names dirs → root.now ≡ ([], form) ∷ below (all_entries inside) → IsRooted inside → len ≡ length dirs
    → greatest_depth left ≤ room → len + length (option_to_list inside) ≤ room
root_room names dirs root form inside left room len is start tree rooted counted h =
    let deep = deep_left root.now (rows_open names dirs) in
    omega (arith, ap greatest_depth is, deep, ap greatest_depth tree, deep_inside [] inside rooted, counted, ap length start.1, h)

module _ (names : Path) (all rest : List OpenDir) (dir : OpenDir) (form : Form) (inside : Option Children) where
  pub child_room : all ≡ rest ++ dir ∷ [] → Nest names 0 (length names + 1) all → dir.children.tree.now ≡ ([], form) ∷ below (all_entries inside) → IsRooted inside
      → (room : ℕ) → greatest_depth (rows_open names all) ≤ room → (dir.depth < room) × (length all + length (option_to_list inside) ≤ room)
  child_room is nest tree rooted room h =
      let last = nest_last names 0 (length names + 1) rest dir (subst (Nest names 0 (length names + 1)) is nest) in
      let deep : dir.depth ≤ length names = omega (arith, last.1) in
      let mine = take dir.depth names ++ dir.children.name.now ∷ [] in
      let below_it = under_all mine (below (all_entries inside)) in
      let behind = under_all (take dir.depth names) (below (later_of dir.children.later)) ++ rows_open names rest in
      let counted : length all ≤ dir.depth + 1 = omega (arith, ap length is, length-append rest (dir ∷ []), nest_count names 0 dir.depth rest last.0) in
      let rows = ap greatest_depth (first_rows names all rest dir form inside is tree) in
      let mine_deep = length-own names all rest dir form inside deep in
      (omega (arith, rows, mine_deep, h), omega (arith, counted, rows, mine_deep, deep_left below_it behind, deep_inside mine inside rooted, h))

-- ---- The contract of a step.

pub record Step (root : Option (Bor Rows)) (names new_names : Path) (all rest after : List OpenDir) (dir : OpenDir) (inside behind : Option Children) : Type 0 where
  pub no_root : root ≡ None
  pub nest : Nest names 0 (length names + 1) all
  pub split : all ≡ rest ++ dir ∷ []
  pub tree : (form : Form) × (dir.children.tree.now ≡ ([], form) ∷ below (all_entries inside))
  pub behind_it : all_entries behind ≡ later_of dir.children.later
  pub named : new_names ≡ take dir.depth names ++ dir.children.name.now ∷ []
  pub left : after ≡ (rest ++ opened dir.depth behind) ++ opened (length new_names) inside

module _ (root : Option (Bor Rows)) (names new_names : Path) (all rest after : List OpenDir) (dir : OpenDir) (inside behind : Option Children) (s : Step root names new_names all rest after dir inside behind) where
  pub step_gives : (left : Rows) (top : Form) → root_rows root ++ rows_open names all ≡ left → at dir.children.tree.now [] ≡ Some top → left ≡ (new_names, top) ∷ (root_rows root ++ rows_open new_names after)
  step_gives left top is found =
      let form : top ≡ s.tree.0 = top_row dir.children.tree.now (below (all_entries inside)) s.tree.0 top s.tree.1 found in
      let none : (rows : Rows) → root_rows root ++ rows ≡ rows = λ rows. ap (λ o. root_rows o ++ rows) s.no_root in
      sym is ∙ none (rows_open names all) ∙ step_rows names all rest dir s.tree.0 inside behind s.split s.nest s.behind_it s.tree.1
      ∙ (λ j. (sym s.named j, sym form j) ∷ rows_open (sym s.named j) ((rest ++ opened dir.depth behind) ++ opened (length (sym s.named j)) inside))
      ∙ ap (λ dirs. (new_names, top) ∷ rows_open new_names dirs) (sym s.left) ∙ ap (λ rows. (new_names, top) ∷ rows) (sym (none (rows_open new_names after)))

  pub step_nested : IsNested root new_names after
  step_nested =
      let name = dir.children.name.now in
      let last = nest_last names 0 (length names + 1) rest dir (subst (Nest names 0 (length names + 1)) s.split s.nest) in
      let deep : dir.depth ≤ length names = omega (arith, last.1) in
      let long : length new_names ≡ dir.depth + 1 = ap length s.named ∙ length-own names all rest dir s.tree.0 inside deep in
      let kept : Nest new_names 0 dir.depth rest = subst (λ p. Nest p 0 dir.depth rest) (sym s.named) (nest_kept names (name ∷ []) 0 dir.depth rest last.0 deep) in
      let more = nest_opened new_names dir.depth dir.depth rest behind kept (omega arith) in
      let nest = nest_opened new_names (dir.depth + 1) (length new_names) (rest ++ opened dir.depth behind) inside more (omega (arith, long)) in
      record {
        start = subst (λ o. IsAtStart o new_names after) (sym s.no_root) tt;
        nest = subst (Nest new_names 0 (length new_names + 1)) (sym s.left) nest;
      }
