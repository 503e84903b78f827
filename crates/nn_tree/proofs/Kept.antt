-- What an edit of the fields shows, and that it keeps the index.
use Rattle.std.proofs.Common.{append-nil, inl, inr, ◌≡◌, ℕ, true, false, cond, List, [], ◌∷◌, ◌<◌, Option, Some, None, refl, sym, ap, subst, ◌∙◌, arith}
use Rattle.std.specs.Prelude.{◌⊎◌}
use Rattle.std.proofs.lemmas.Bool.{both_ways, leb-false}
use Rattle.nn_types.specs.declared.block.Block.{Block}
use Rattle.nn_types.specs.declared.edit.Edit.TheVariants as edit
use Rattle.nn_types.specs.LawfulEdit.{IsTypedEdit}
use Rattle.nn_types.specs.declared.profile.Profile.{Profile}
use Rattle.nn_model.proofs.Utf8Names.{names_stay_utf8}
use Rattle.nn_model.proofs.Trees.{stays_well_formed, absent}
use Rattle.nn_model.specs.declared.form.Form.TheVariants.{Dir, File}
use Rattle.nn_model.specs.declared.form.FileRow.{FileRow}
use Rattle.nn_model.proofs.Equals.{root_alone_is_well_formed}
use Rattle.nn_model.specs.Namespace.{Namespace, root_alone, lookup, with_row, blocks_of, file_at, file_or_none}
use Rattle.nn_model.specs.Apply.{refusal, effect, checks, first_fault}
use Rattle.nn_model.specs.WellFormed.{Includes, HasWellFormedBlocks, IsWellFormed, HasUtf8Names}
use Rattle.nn_model.proofs.Dues.{all_none, when_none}
use Rattle.nn_model.proofs.Lookups.{lookup_put, find_in_order}
use Rattle.nn_model.specs.declared.form.Form.{Form}
use Rattle.nn_model.specs.Namespace.{Path, Issued}
use Rattle.nn_tree.specs.At.{at, IsSubtree, IsGrafted, IsSame}
use Rattle.nn_tree.specs.Walks.{rename_fault, moved_rows, IsRenamed}
use Rattle.nn_model.specs.declared.form.BlockRow.{BlockRow}
use Rattle.nn_tree.specs.Issued.{AreBelow}
use Rattle.nn_tree.specs.View.{seen, InRow, IsInSomeFile, IsIndex, IsKept, Holds}
use Rattle.nn_tree.specs.declared.sizes.Sizes.{Sizes}
use Rattle.nn_model.proofs.Prefixes.{same, same_self}
use Rattle.nn_tree.proofs.Prefix.{can_move}
use Rattle.nn_tree.proofs.Renamed.{moved_there}
use Rattle.nn_tree.proofs.Bridge.{looks}
use Rattle.nn_tree.proofs.Edited.{graft_leaf, put_there, same_there, set_once}
use Rattle.nn_tree.proofs.Indexed.{old_blocks, Writes, index_written, index_renamed, index_alike, apart}

-- nothing stands where an edit makes something, or below it
pub mkdir_free : (n : Namespace) (p : Path) → refusal n (edit.Mkdir p) ≡ None → lookup n p ≡ None
mkdir_free n p applies = absent (lookup n p) (all_none (checks n (edit.Mkdir p)) applies).1.1.0

-- ---- the namespace before the first edit
no_block_stands : (b : BlockRow) → IsInSomeFile (lookup root_alone) b → ⊥
no_block_stands b ([], r, e, here) = let is : Dir ≡ r = cc in subst (λ form. Includes (blocks_of form) b.block) (sym is) here.1
no_block_stands b (name ∷ p, r, e, here) = absurd (cc)

root_utf8 : HasUtf8Names root_alone
root_utf8 [] some = refl
root_utf8 (name ∷ p) some = absurd (both_ways _ refl some)

pub new_kept : (n : Namespace) (look : ℕ → Option BlockRow) → n ≡ root_alone → ((id : ℕ) → look id ≡ None) → IsKept n look
new_kept n look e none = record {
  well = subst IsWellFormed (sym e) root_alone_is_well_formed;
  utf8 = subst HasUtf8Names (sym e) root_utf8;
  index = record {
    sound = λ id b h. absurd (let m = none id in (cc (m, h)));
    complete = λ b stands. absurd (no_block_stands b (subst (λ m. IsInSomeFile (lookup m) b) e stands));
  };
}

-- ---- nothing changes
pub still_seen : (es new : List (Path × Form)) (issued : Issued) → IsSame es new → seen new issued ≡ seen es issued
still_seen es new issued h = ap (λ r. record { rows = r; issued = issued }) (same_there es new h)

pub still_held : (es new : List (Path × Form)) (issued : Issued) (look : ℕ → Option BlockRow) (sizes : Sizes) → IsSame es new → Holds (seen es issued) look sizes → Holds (seen new issued) look sizes
still_held es new issued look sizes h k = subst (λ n. Holds n look sizes) (sym (still_seen es new issued h)) k

-- ---- a row instead of another
pub put_seen : (es new : List (Path × Form)) (issued : Issued) (p : Path) (r : Form) → ((q : Path) → at new q ≡ cond (same q p) (Some r) (at es q)) → seen new issued ≡ with_row (seen es issued) p r
put_seen es new issued p r h = ap (λ x. record { rows = x; issued = issued }) (put_there es new p r h)

pub put_index : (n : Namespace) (p : Path) (r : Form) (look next : ℕ → Option BlockRow) → Writes (lookup n) p r look next → IsIndex (lookup n) look → IsIndex (lookup (with_row n p r)) next
put_index n p r look next w x = index_written (lookup n) (lookup (with_row n p r)) p r look next (λ q. lookup_put n p q r) (same_self p) w x

-- a row without blocks where nothing stood
pub fresh_writes : (f : Path → Option Form) (p : Path) (r : Form) (look : ℕ → Option BlockRow) → f p ≡ None → blocks_of r ≡ [] → Writes f p r look look
fresh_writes f p r look e z = record {
  own = λ x h c q s at_q in_row is. elim h [ inl a ↦ absurd (subst (λ bs. Includes bs x) z a) | inr b ↦ absurd (subst (λ o. Includes (old_blocks o) x) e b) ];
  written = λ b h. absurd (subst (λ bs. Includes bs b.block) z h.1);
  kept = λ id a b. refl;
  gone = λ x b a. absurd (subst (λ o. Includes (old_blocks o) x) e b);
}

pub made : (es new : List (Path × Form)) (issued : Issued) (p ns : Path) (r : Form) → ns ≡ p → IsSubtree es ns None → IsGrafted es ns (Some (([], r) ∷ [])) new → seen new issued ≡ with_row (seen es issued) p r
made es new issued p ns r e free h =
    put_seen es new issued p r (λ q. h q ∙ graft_leaf (at es) ns r (λ n x. free (n ∷ x)) q ∙ ap (λ x. cond (same q x) (Some r) (at es q)) e)

pub mkdir_kept : (n : Namespace) (p : Path) (look : ℕ → Option BlockRow) → IsTypedEdit (edit.Mkdir p) → refusal n (edit.Mkdir p) ≡ None → IsKept n look → IsKept (effect n (edit.Mkdir p)) look
mkdir_kept n p look l lawful k = record {
  well = stays_well_formed n (edit.Mkdir p) l.0 lawful k.well;
  utf8 = names_stay_utf8 n (edit.Mkdir p) l.1 lawful k.well k.utf8;
  index = put_index n p Dir look look (fresh_writes (lookup n) p Dir look (mkdir_free n p lawful) refl) k.index;
}

-- what Add asks of the path is what Mkdir asks
pub add_mkdir : (n : Namespace) (p : Path) (r : ℕ) → refusal n (edit.Add p r) ≡ None → refusal n (edit.Mkdir p) ≡ None
add_mkdir n p r h =
    let a = all_none (checks n (edit.Add p r)) h in
    λ j. first_fault (a.0 j ∷ a.1.1.0 j ∷ a.1.1.1.0 j ∷ [])

pub add_kept : (n : Namespace) (p : Path) (r : ℕ) (look : ℕ → Option BlockRow) → IsTypedEdit (edit.Add p r) → refusal n (edit.Add p r) ≡ None → IsKept n look → IsKept (effect n (edit.Add p r)) look
add_kept n p r look l lawful k =
    let row = File (record { replication = r; closed = false; blocks = [] }) in record {
      well = stays_well_formed n (edit.Add p r) l.0 lawful k.well;
      utf8 = names_stay_utf8 n (edit.Add p r) l.1 lawful k.well k.utf8;
      index = put_index n p row look look (fresh_writes (lookup n) p row look (mkdir_free n p (add_mkdir n p r lawful)) refl) k.index;
    }

-- ---- a rename
pub renamed_seen : (es new : List (Path × Form)) (issued : Issued) (s d ss ds : Path) → ss ≡ s → ds ≡ d → IsSubtree es ds None → IsRenamed es ss ds new → seen new issued ≡ effect (seen es issued) (edit.Rename s d)
renamed_seen es new issued s d ss ds e f free h =
    ap (λ x. record { rows = x; issued = issued })
    (moved_there es new s d (subst (λ (p : Path). IsSubtree es p None) f free) (λ q. h q ∙ (λ j. moved_rows (at es) (e j) (f j) q)))

pub rename_kept : (es new : List (Path × Form)) (issued : Issued) (look : ℕ → Option BlockRow) (s d ss ds : Path) → ss ≡ s → ds ≡ d → IsTypedEdit (edit.Rename s d) → refusal (seen es issued) (edit.Rename s d) ≡ None → rename_fault (at es) ss ds ≡ None →
    IsSubtree es ds None → IsRenamed es ss ds new → IsKept (seen es issued) look → IsKept (seen new issued) look
rename_kept es new issued look s d ss ds e f l lawful fault free h k =
    let n = seen es issued in
    let is = renamed_seen es new issued s d ss ds e f free h in
    let move = can_move (at es) ss ds fault free in
    let same_rows : (q : Path) → at es q ≡ lookup n q = λ q. sym (find_in_order q es) in
    record {
      well = subst IsWellFormed (sym is) (stays_well_formed n (edit.Rename s d) l.0 lawful k.well);
      utf8 = subst HasUtf8Names (sym is) (names_stay_utf8 n (edit.Rename s d) l.1 lawful k.well k.utf8);
      index = index_alike (at new) (lookup (seen new issued)) look (λ q. find_in_order q new)
          (index_alike (moved_rows (at es) ss ds) (at new) look h (index_renamed (at es) ss ds look move (index_alike (lookup n) (at es) look same_rows k.index)));
    }

-- ---- a file instead of a file
-- the file that stood there
pub file_was : (es : List (Path × Form)) (issued : Issued) (p ns : Path) (x : FileRow) → ns ≡ p → IsSubtree es ns (Some (([], File x) ∷ [])) → lookup (seen es issued) p ≡ Some (File x)
file_was es issued p ns x e h = sym (λ j. looks es (seen es issued) refl j (e j)) ∙ ap (at es) (sym (append-nil ns)) ∙ h []

pub file_seen : (es new : List (Path × Form)) (issued : Issued) (p ns : Path) (x y : FileRow) → ns ≡ p → IsSubtree es ns (Some (([], File x) ∷ [])) → IsGrafted es ns (Some (([], File y) ∷ [])) new → seen new issued ≡ with_row (seen es issued) p (File y)
file_seen es new issued p ns x y e h k = put_seen es new issued p (File y) (λ q. set_once es new ns (File x) (File y) h k q ∙ ap (λ s. cond (same q s) (Some (File y)) (at es q)) e)

-- the blocks of a file that is written stand nowhere else, if they are old ones
pub old_own : (n : Namespace) (p : Path) (y : Form) → HasWellFormedBlocks n → ((x : Block) → Includes (blocks_of y) x → (o : Block) × Includes (old_blocks (lookup n p)) o × (o.id ≡ x.id)) →
    (x : Block) → Includes (blocks_of y) x ⊎ Includes (old_blocks (lookup n p)) x → (c : BlockRow) (q : Path) (r : Form) → lookup n q ≡ Some r → InRow c r → c.block.id ≡ x.id → same q p ≡ true
old_own n p y w old x here c q r at_q in_row is =
    elim here [
      | inl new ↦ (let o = old x new in apart n p q o.0 r c.block w o.1 at_q in_row.1 (is ∙ sym o.2))
      | inr was ↦ apart n p q x r c.block w was at_q in_row.1 is
    ]

pub set_replication_kept : (n : Namespace) (p : Path) (r : ℕ) (x : FileRow) (look : ℕ → Option BlockRow) → IsTypedEdit (edit.SetReplication p r) → refusal n (edit.SetReplication p r) ≡ None → lookup n p ≡ Some (File x) → IsKept n look → IsKept (effect n (edit.SetReplication p r)) look
set_replication_kept n p r x look l lawful was k =
    let row = File (record { replication = r; closed = (file_at n p).closed; blocks = (file_at n p).blocks }) in
    let old : file_at n p ≡ x = ap file_or_none was in
    record {
      well = stays_well_formed n (edit.SetReplication p r) l.0 lawful k.well;
      utf8 = names_stay_utf8 n (edit.SetReplication p r) l.1 lawful k.well k.utf8;
      index = put_index n p row look look (record {
        own = old_own n p row k.well.blocks (λ b here. (b, here, refl));
        written = λ b h. k.index.complete b (p, File x, was, (h.0 ∙ ap (λ f. f.closed) old, subst (λ f. Includes f.blocks b.block) old h.1));
        kept = λ id a b. refl;
        gone = λ b here away. absurd (away b here refl);
      }) k.index;
    }

-- ---- ids and stamps
-- ids that wait are below the next one
pub below_next : (n : Namespace) (i : ℕ) → HasWellFormedBlocks n → refusal n (edit.AllocateBlockId i) ≡ None → AreBelow i n.issued.awaiting
below_next n i w lawful k waits =
    let above : n.issued.last_block < i = leb-false _ _ (when_none _ _ (all_none (checks n (edit.AllocateBlockId i)) lawful).0) in
    omega (arith, (w.awaiting_from k waits).1)

pub allocate_kept : (n : Namespace) (i : ℕ) (look : ℕ → Option BlockRow) → IsTypedEdit (edit.AllocateBlockId i) → refusal n (edit.AllocateBlockId i) ≡ None → IsKept n look → IsKept (effect n (edit.AllocateBlockId i)) look
allocate_kept n i look l lawful k = record {
  well = stays_well_formed n (edit.AllocateBlockId i) l.0 lawful k.well;
  utf8 = names_stay_utf8 n (edit.AllocateBlockId i) l.1 lawful k.well k.utf8;
  index = k.index;
}

pub start_kept : (n : Namespace) (profile : Profile) (look : ℕ → Option BlockRow) → IsTypedEdit (edit.StartSegment profile) → refusal n (edit.StartSegment profile) ≡ None → IsKept n look → IsKept (effect n (edit.StartSegment profile)) look
start_kept n profile look l lawful k = record {
  well = stays_well_formed n (edit.StartSegment profile) l.0 lawful k.well;
  utf8 = names_stay_utf8 n (edit.StartSegment profile) l.1 lawful k.well k.utf8;
  index = k.index;
}

pub genstamp_kept : (n : Namespace) (stamp : ℕ) (look : ℕ → Option BlockRow) → IsTypedEdit (edit.SetGenstamp stamp) → refusal n (edit.SetGenstamp stamp) ≡ None → IsKept n look → IsKept (effect n (edit.SetGenstamp stamp)) look
genstamp_kept n stamp look l lawful k = record {
  well = stays_well_formed n (edit.SetGenstamp stamp) l.0 lawful k.well;
  utf8 = names_stay_utf8 n (edit.SetGenstamp stamp) l.1 lawful k.well k.utf8;
  index = k.index;
}
