-- What edits and logs do to the part of a namespace that has their names, and to the rest.
use Rattle.std.proofs.Common.{◌≡◌, ℕ, Bool, true, false, not, ◌&&◌, ◌||◌, List, [], ◌∷◌, ◌++◌, length, filter, Option, Some, None, Ok, refl, sym, ap, ◌∙◌, append-nil}
use Rattle.std.specs.Prelude.{is_some, flat_map, ◌==◌, nat_le, nat_lt}
use Rattle.std.specs.List.{list_all, fold}
use Rattle.std.specs.Result.{result_map_both}
use Rattle.std.specs.FinMap.Entries.{put}
use Rattle.std.proofs.lemmas.Bool.{and_parts, and_from, or_right}
use Rattle.std.proofs.lemmas.List.Folds.{list_all-append}
use Rattle.nn_types.specs.declared.block.Block.{Block}
use Rattle.nn_types.specs.declared.edit.Edit.{Edit}
use Rattle.nn_types.specs.declared.edit.Edit.TheVariants.{StartSegment, EndSegment, Mkdir, Add, AddBlock, UpdateBlocks, Close, Append, Rename, Delete, SetReplication}
use Rattle.nn_types.specs.declared.edit.Edit.TheVariants.{AllocateBlockId, SetGenstamp}
use Rattle.nn_types.specs.declared.edit_fault.EditFault.TheVariants.{IntoItself, WrongBlocks, BadGeneration, BadBlockId}
use Rattle.nn_types.specs.declared.tx.Tx.{Tx}
use Rattle.nn_model.specs.declared.form.Form.{Form}
use Rattle.nn_model.specs.declared.form.Form.TheVariants.{Dir, File}
use Rattle.nn_model.specs.Namespace.{Path, path_cmp, Namespace, lookup, with_row, begins_with, file_at, file_or_none, blocks_of, no_stamp}
use Rattle.nn_model.specs.Apply.{first_fault, fault_if, in_directory, walk, is_root, exists, missing, is_dir, not_file, not_open, not_closed, replication_range, keeps_ids}
use Rattle.nn_model.specs.Apply.{keeps_stamps, has_id, list_checks, checks, refusal, new_block, effect, outcome, applied}
use Rattle.nn_model.specs.WellFormed.{IsWellFormed}
use Rattle.nn_model.specs.Log.{namespace_after, IsLog, run, unless_refused}
use Rattle.nn_model.specs.Part.{has_name, ends_in, is_in_part, part, rest, carried, names_in}
use Rattle.nn_model.specs.Laws.{EditOnThePart, LogOnThePart, RestGoesAlong, RestGoesAlongLog, PartIsWellFormed}
use Rattle.nn_model.proofs.Dues.{all_none}
use Rattle.nn_model.proofs.InRows.{filter_from}
use Rattle.nn_model.proofs.Kept.{Ordered, ordered_put, ordered_without, kept, kept_at, always_kept, kept_some, kept_stands, find_kept, ordered_kept, put_kept}
use Rattle.nn_model.proofs.Kept.{put_passed, without_kept, moved_kept}
use Rattle.nn_model.proofs.Moves.{moved_all, nothing_below}
use Rattle.nn_model.proofs.Trees.{IsTree, tree_of, edit_tree, absent}
use Rattle.nn_model.proofs.Wells.{sorted_in_order, fewer_well, times_filter}

module _ (names : List (List ℕ)) where
  abbrev in_part : Path × Form → Bool
  in_part = is_in_part names

  abbrev in_rest : Path × Form → Bool
  in_rest row = not (is_in_part names row)

  -- ---- names

  abbrev AllNamed : List (List ℕ) → Type 0
  AllNamed p = list_all (has_name names) p ≡ true

  last_named : (name : List ℕ) (p : Path) → AllNamed (name ∷ p) → ends_in names (name ∷ p) ≡ true
  last_named name [] all = (and_parts (has_name names name) true all).0
  last_named name (next ∷ p) all = last_named next p (and_parts (has_name names name) (list_all (has_name names) (next ∷ p)) all).1

  below_root : (p : Path) → is_root p ≡ None → AllNamed p → ends_in names p ≡ true
  below_root [] is all = absurd (cc)
  below_root (name ∷ p) is all = last_named name p all

  -- whatever stands at a path that is named is in the part
  named_is_in : (p : Path) → ends_in names p ≡ true → (form : Form) → in_part (p, form) ≡ true
  named_is_in p named form = or_right (is_dir (Some form)) (ends_in names p) named

  named_append : (p : Path) (name : List ℕ) (more : Path) → ends_in names (p ++ name ∷ more) ≡ ends_in names (name ∷ more)
  named_append [] name more = refl
  named_append (x ∷ []) name more = refl
  named_append (x ∷ y ∷ p) name more = named_append (y ∷ p) name more

  -- what moves from one named path to another keeps its last name, or gets another one of these
  named_moved : (s d : Path) → ends_in names s ≡ true → ends_in names d ≡ true → (more : Path) → ends_in names (s ++ more) ≡ ends_in names (d ++ more)
  named_moved s d source target [] = ap (ends_in names) (append-nil s) ∙ source ∙ sym (ap (ends_in names) (append-nil d) ∙ target)
  named_moved s d source target (name ∷ more) = named_append s name more ∙ sym (named_append d name more)

  walk_alike : (f g : Path → Option Form) → ((q : Path) → AllNamed q → f q ≡ g q) → (p : Path) → AllNamed p → walk f p ≡ walk g p
  walk_alike f g alike [] all = refl
  walk_alike f g alike (name ∷ p) all =
      let parts = and_parts (has_name names name) (list_all (has_name names) p) all in
      let later = walk_alike (λ q. f (name ∷ q)) (λ q. g (name ∷ q)) (λ q named. alike (name ∷ q) (and_from _ _ parts.0 named)) p parts.1 in
      (λ j. in_directory (alike [] refl j) (later j))

  -- ---- a namespace in path order, and a tree of directories with files as leaves

  record IsWhole (n : Namespace) : Type 0 where
    in_order : Ordered n.rows
    tree : IsTree (lookup n)

  whole_of : (n : Namespace) → IsWellFormed n → IsWhole n
  whole_of n w = record { in_order = w.blocks.in_order; tree = tree_of n w }

  -- ---- an edit

  module _ (n : Namespace) (w : IsWhole n) where
    at_named : (q : Path) → AllNamed q → lookup (part names n) q ≡ lookup n q
    at_named [] all = find_kept in_part [] n.rows w.in_order ∙ ap (kept_at in_part []) w.tree.root ∙ sym w.tree.root
    at_named (name ∷ p) all = find_kept in_part (name ∷ p) n.rows w.in_order
        ∙ always_kept in_part (name ∷ p) (lookup n (name ∷ p)) (named_is_in (name ∷ p) (last_named name p all))

    nothing_at : (d : Path) → exists (lookup n d) ≡ None → (more : Path) → lookup n (d ++ more) ≡ None
    nothing_at d free more = nothing_below (lookup n) w.tree.parents d more (absent (lookup n d) free)

    walked : (p : Path) → AllNamed p → walk (lookup (part names n)) p ≡ walk (lookup n) p
    walked p all = walk_alike (lookup (part names n)) (lookup n) at_named p all

    list_refusal : (p : Path) (bs : List Block) → AllNamed p → first_fault (list_checks (part names n) p bs) ≡ first_fault (list_checks n p bs)
    list_refusal p bs all =
        let at = at_named p all in let on_the_way = walked p all in
        (λ j. first_fault (is_root p ∷ on_the_way j ∷ missing (at j) ∷ not_file (at j) ∷ not_open (at j)
        ∷ fault_if (not (keeps_ids (file_or_none (at j)).blocks bs)) WrongBlocks
        ∷ fault_if (not (keeps_stamps n.issued.last_stamp (file_or_none (at j)).blocks bs)) BadGeneration ∷ []))

    refused_alike : (edit : Edit) → AllNamed (names_in edit) → refusal (part names n) edit ≡ refusal n edit
    refused_alike (StartSegment profile) all = refl
    refused_alike EndSegment all = refl
    refused_alike (Mkdir p) all =
        let at = at_named p all in let on_the_way = walked p all in (λ j. first_fault (is_root p ∷ on_the_way j ∷ exists (at j) ∷ []))
    refused_alike (Add p r) all =
        let at = at_named p all in let on_the_way = walked p all in (λ j. first_fault (is_root p ∷ replication_range r ∷ on_the_way j ∷ exists (at j) ∷ []))
    refused_alike (AddBlock p i stamp) all =
        let at = at_named p all in let on_the_way = walked p all in
        (λ j. first_fault (is_root p ∷ on_the_way j ∷ missing (at j) ∷ not_file (at j) ∷ not_open (at j)
        ∷ fault_if (not (has_id n.issued.awaiting i)) BadBlockId
        ∷ fault_if (nat_le stamp no_stamp || nat_lt n.issued.last_stamp stamp) BadGeneration ∷ []))
    refused_alike (UpdateBlocks p bs) all = list_refusal p bs all
    refused_alike (Close p bs) all = list_refusal p bs all
    refused_alike (Append p) all =
        let at = at_named p all in let on_the_way = walked p all in
        (λ j. first_fault (is_root p ∷ on_the_way j ∷ missing (at j) ∷ not_file (at j) ∷ not_closed (at j) ∷ []))
    refused_alike (Rename s d) all =
        let both = and_parts (list_all (has_name names) s) (list_all (has_name names) d) (sym (list_all-append (has_name names) s d) ∙ all) in
        let source = at_named s both.0 in let to_source = walked s both.0 in
        let target = at_named d both.1 in let to_target = walked d both.1 in
        (λ j. first_fault (is_root s ∷ is_root d ∷ to_source j ∷ missing (source j)
        ∷ fault_if (begins_with s d && nat_lt (length s) (length d)) IntoItself
        ∷ to_target j ∷ exists (target j) ∷ []))
    refused_alike (Delete p) all =
        let at = at_named p all in let on_the_way = walked p all in (λ j. first_fault (is_root p ∷ on_the_way j ∷ missing (at j) ∷ []))
    refused_alike (SetReplication p r) all =
        let at = at_named p all in let on_the_way = walked p all in
        (λ j. first_fault (is_root p ∷ replication_range r ∷ on_the_way j ∷ missing (at j) ∷ not_file (at j) ∷ []))
    refused_alike (AllocateBlockId i) all = refl
    refused_alike (SetGenstamp stamp) all = refl

    -- a row whose form comes of what stood at its path
    row_of : (p : Path) (form : Option Form → Form) → is_root p ≡ None → AllNamed p →
        put path_cmp p (form (lookup (part names n) p)) (kept in_part n.rows) ≡ kept in_part (put path_cmp p (form (lookup n p)) n.rows)
    row_of p form below all =
        (λ j. put path_cmp p (form (at_named p all j)) (kept in_part n.rows))
        ∙ put_kept in_part p (form (lookup n p)) n.rows w.in_order (named_is_in p (below_root p below all))

    same_row : (p : Path) (form : Option Form → Form) → is_root p ≡ None → AllNamed p →
        with_row (part names n) p (form (lookup (part names n) p)) ≡ part names (with_row n p (form (lookup n p)))
    same_row p form below all = let rows = row_of p form below all in (λ j. record { rows = rows j; issued = n.issued })

    done_alike : (edit : Edit) → AllNamed (names_in edit) → refusal n edit ≡ None → effect (part names n) edit ≡ part names (effect n edit)
    done_alike (StartSegment profile) all applies = refl
    done_alike EndSegment all applies = refl
    done_alike (Mkdir p) all applies = same_row p (λ o. Dir) (all_none (checks n (Mkdir p)) applies).0 all
    done_alike (Add p r) all applies =
        same_row p (λ o. File (record { replication = r; closed = false; blocks = [] })) (all_none (checks n (Add p r)) applies).0 all
    done_alike (AddBlock p i stamp) all applies =
        let rows = row_of p (λ o. File (record { replication = (file_or_none o).replication; closed = false; blocks = (file_or_none o).blocks ++ new_block i stamp ∷ [] }))
        (all_none (checks n (AddBlock p i stamp)) applies).0 all in
        (λ j. record { rows = rows j; issued = record n.issued { awaiting = filter (λ id. not (id == i)) n.issued.awaiting } })
    done_alike (UpdateBlocks p bs) all applies =
        same_row p (λ o. File (record { replication = (file_or_none o).replication; closed = false; blocks = bs })) (all_none (checks n (UpdateBlocks p bs)) applies).0 all
    done_alike (Close p bs) all applies =
        same_row p (λ o. File (record { replication = (file_or_none o).replication; closed = true; blocks = bs })) (all_none (checks n (Close p bs)) applies).0 all
    done_alike (Append p) all applies =
        same_row p (λ o. File (record { replication = (file_or_none o).replication; closed = false; blocks = (file_or_none o).blocks }))
        (all_none (checks n (Append p)) applies).0 all
    done_alike (Rename s d) all applies =
        let both = and_parts (list_all (has_name names) s) (list_all (has_name names) d) (sym (list_all-append (has_name names) s d) ∙ all) in
        let ok = all_none (checks n (Rename s d)) applies in
        let alike = named_moved s d (below_root s ok.0 both.0) (below_root d ok.1.0 both.1) in
        let rows = moved_kept in_part s d n.rows (λ more form. ap (λ b. is_dir (Some form) || b) (alike more)) (nothing_at d ok.1.1.1.1.1.1.0) w.in_order in
        (λ j. record { rows = rows j; issued = n.issued })
    done_alike (Delete p) all applies = let rows = without_kept in_part p n.rows w.in_order in (λ j. record { rows = rows j; issued = n.issued })
    done_alike (SetReplication p r) all applies =
        same_row p (λ o. File (record (file_or_none o) { replication = r })) (all_none (checks n (SetReplication p r)) applies).0 all
    done_alike (AllocateBlockId i) all applies = refl
    done_alike (SetGenstamp stamp) all applies = refl

    still_in_order : (edit : Edit) → Ordered (effect n edit).rows
    still_in_order (StartSegment profile) = w.in_order
    still_in_order EndSegment = w.in_order
    still_in_order (Mkdir p) = ordered_put p Dir n.rows w.in_order
    still_in_order (Add p r) = ordered_put p (File (record { replication = r; closed = false; blocks = [] })) n.rows w.in_order
    still_in_order (AddBlock p i stamp) =
        ordered_put p (File (record { replication = (file_at n p).replication; closed = false; blocks = (file_at n p).blocks ++ new_block i stamp ∷ [] })) n.rows w.in_order
    still_in_order (UpdateBlocks p bs) = ordered_put p (File (record { replication = (file_at n p).replication; closed = false; blocks = bs })) n.rows w.in_order
    still_in_order (Close p bs) = ordered_put p (File (record { replication = (file_at n p).replication; closed = true; blocks = bs })) n.rows w.in_order
    still_in_order (Append p) = ordered_put p (File (record { replication = (file_at n p).replication; closed = false; blocks = (file_at n p).blocks })) n.rows w.in_order
    still_in_order (Rename s d) = sorted_in_order (moved_all s d n.rows)
    still_in_order (Delete p) = ordered_without p n.rows w.in_order
    still_in_order (SetReplication p r) = ordered_put p (File (record (file_at n p) { replication = r })) n.rows w.in_order
    still_in_order (AllocateBlockId i) = w.in_order
    still_in_order (SetGenstamp stamp) = w.in_order

    still_whole : (edit : Edit) → refusal n edit ≡ None → IsWhole (effect n edit)
    still_whole edit applies = record { in_order = still_in_order edit; tree = edit_tree n w.tree edit applies }

    -- no row is put in the rest
    row_apart : (p : Path) (form : Form) → is_root p ≡ None → AllNamed p → kept in_rest (put path_cmp p form n.rows) ≡ kept in_rest n.rows
    row_apart p form below all = put_passed in_rest p form n.rows w.in_order (λ other. ap not (named_is_in p (below_root p below all) other))

    goes_along : (edit : Edit) → AllNamed (names_in edit) → refusal n edit ≡ None → rest names (effect n edit) ≡ carried (rest names n) edit
    goes_along (StartSegment profile) all applies = refl
    goes_along EndSegment all applies = refl
    goes_along (Mkdir p) all applies = row_apart p Dir (all_none (checks n (Mkdir p)) applies).0 all
    goes_along (Add p r) all applies = row_apart p (File (record { replication = r; closed = false; blocks = [] })) (all_none (checks n (Add p r)) applies).0 all
    goes_along (AddBlock p i stamp) all applies =
        row_apart p (File (record { replication = (file_at n p).replication; closed = false; blocks = (file_at n p).blocks ++ new_block i stamp ∷ [] }))
        (all_none (checks n (AddBlock p i stamp)) applies).0 all
    goes_along (UpdateBlocks p bs) all applies =
        row_apart p (File (record { replication = (file_at n p).replication; closed = false; blocks = bs })) (all_none (checks n (UpdateBlocks p bs)) applies).0 all
    goes_along (Close p bs) all applies =
        row_apart p (File (record { replication = (file_at n p).replication; closed = true; blocks = bs })) (all_none (checks n (Close p bs)) applies).0 all
    goes_along (Append p) all applies =
        row_apart p (File (record { replication = (file_at n p).replication; closed = false; blocks = (file_at n p).blocks })) (all_none (checks n (Append p)) applies).0 all
    goes_along (Rename s d) all applies =
        let both = and_parts (list_all (has_name names) s) (list_all (has_name names) d) (sym (list_all-append (has_name names) s d) ∙ all) in
        let ok = all_none (checks n (Rename s d)) applies in
        let alike = named_moved s d (below_root s ok.0 both.0) (below_root d ok.1.0 both.1) in
        sym (moved_kept in_rest s d n.rows (λ more form. ap (λ b. not (is_dir (Some form) || b)) (alike more)) (nothing_at d ok.1.1.1.1.1.1.0) w.in_order)
    goes_along (Delete p) all applies = sym (without_kept in_rest p n.rows w.in_order)
    goes_along (SetReplication p r) all applies = row_apart p (File (record (file_at n p) { replication = r })) (all_none (checks n (SetReplication p r)) applies).0 all
    goes_along (AllocateBlockId i) all applies = refl
    goes_along (SetGenstamp stamp) all applies = refl

    edit_on_the_part : (edit : Edit) → AllNamed (names_in edit) →
        applied (part names n) edit ≡ result_map_both (part names) (λ fault. fault) (applied n edit)
    edit_on_the_part edit all =
        ap (λ o. outcome o (effect (part names n) edit)) (refused_alike edit all)
        ∙ elim (refusal n edit) as (λ o. refusal n edit ≡ o → outcome o (effect (part names n) edit)
        ≡ result_map_both (part names) (λ fault. fault) (outcome o (effect n edit))) [
          | None ↦ λ applies. ap Ok (done_alike edit all applies)
          | Some fault ↦ λ applies. refl
        ] refl

  -- ---- a log

  all_of : (tx : Tx) (txs : List Tx) → AllNamed (flat_map (λ t. names_in t.edit) (tx ∷ txs)) →
      AllNamed (names_in tx.edit) × AllNamed (flat_map (λ t. names_in t.edit) txs)
  all_of tx txs all =
      and_parts (list_all (has_name names) (names_in tx.edit)) (list_all (has_name names) (flat_map (λ t. names_in t.edit) txs))
      (sym (list_all-append (has_name names) (names_in tx.edit) (flat_map (λ t. names_in t.edit) txs)) ∙ all)

  log_on_the_part : (n : Namespace) (txs : List Tx) → IsWhole n → AllNamed (flat_map (λ tx. names_in tx.edit) txs) →
      run (part names n) txs ≡ result_map_both (part names) (λ stop. stop) (run n txs)
  log_on_the_part n [] w all = refl
  log_on_the_part n (tx ∷ txs) w all =
      let both = all_of tx txs all in
      ap (λ o. unless_refused o tx.txid (run (effect (part names n) tx.edit) txs)) (refused_alike n w tx.edit both.0)
      ∙ elim (refusal n tx.edit) as (λ o. refusal n tx.edit ≡ o → unless_refused o tx.txid (run (effect (part names n) tx.edit) txs)
      ≡ result_map_both (part names) (λ stop. stop) (unless_refused o tx.txid (run (effect n tx.edit) txs))) [
        | None ↦ λ applies. ap (λ m. run m txs) (done_alike n w tx.edit both.0 applies)
            ∙ log_on_the_part (effect n tx.edit) txs (still_whole n w tx.edit applies) both.1
        | Some fault ↦ λ applies. refl
      ] refl

  rest_goes_along : (n : Namespace) (last : ℕ) (txs : List Tx) → IsWhole n → AllNamed (flat_map (λ tx. names_in tx.edit) txs) → IsLog n last txs →
      rest names (namespace_after n txs) ≡ fold (λ rows tx. carried rows tx.edit) (rest names n) txs
  rest_goes_along n last [] w all log = refl
  rest_goes_along n last (tx ∷ txs) w all log =
      let both = all_of tx txs all in
      rest_goes_along (effect n tx.edit) tx.txid txs (still_whole n w tx.edit log.1) both.1 log.2
      ∙ ap (λ rows. fold (λ kept_rows t. carried kept_rows t.edit) rows txs) (goes_along n w tx.edit both.0 log.1)

  -- ---- the part of a well formed namespace

  part_well : (n : Namespace) → IsWellFormed n → IsWellFormed (part names n)
  part_well n w =
      let at = λ (q : Path). find_kept in_part q n.rows w.blocks.in_order in
      record {
        root = at [] ∙ ap (kept_at in_part []) w.root;
        parents = λ p name some. at p
            ∙ ap (kept_at in_part p) (w.parents p name (kept_stands in_part (p ++ name ∷ []) (lookup n (p ++ name ∷ [])) (sym (ap is_some (at (p ++ name ∷ []))) ∙ some)));
        replications = λ p file there. w.replications p file (kept_some in_part p (lookup n p) (File file) (sym (at p) ∙ there));
        blocks = fewer_well n w.blocks (kept in_part n.rows) (ordered_kept in_part n.rows w.blocks.in_order) (λ id. times_filter id in_part n.rows)
            (λ b here. filter_from blocks_of in_part n.rows b here);
        last_block_to = w.last_block_to;
        last_stamp_from = w.last_stamp_from;
        last_stamp_to = w.last_stamp_to;
      }

pub edit_on_part : EditOnThePart
edit_on_part names n edit all w = edit_on_the_part names n (whole_of names n w) edit all

pub log_on_part : LogOnThePart
log_on_part names n txs all w = log_on_the_part names n txs (whole_of names n w) all

pub edit_carries : RestGoesAlong
edit_carries names n edit all w applies = goes_along names n (whole_of names n w) edit all applies

pub log_carries : RestGoesAlongLog
log_carries names n last txs all w log = rest_goes_along names n last txs (whole_of names n w) all log

pub part_is_well_formed : PartIsWellFormed
part_is_well_formed names n w = part_well names n w
