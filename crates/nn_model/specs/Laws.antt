-- What edits and logs keep, as statements; the functions of the crate prove them.
use Rattle.std.specs.Prelude.{◌≡◌, ℕ, ◌+◌, ◌<◌, ◌≤◌, true, false, List, [], ◌∷◌, ◌++◌, length, flat_map, None, Ok}
use Rattle.std.specs.Option.{option_map}
use Rattle.std.specs.List.{list_all, fold}
use Rattle.std.specs.Result.{result_map_both}
use Rattle.nn_types.specs.declared.edit.Edit.{Edit}
use Rattle.nn_types.specs.declared.tx.Tx.{Tx}
use Rattle.nn_types.specs.LawfulEdit.{IsLawfulEdit, IsUtf8Edit}
use Rattle.nn_types.specs.declared.profile.Profile.{Profile}
use Rattle.nn_types.specs.declared.profile.Profile.TheVariants.{One}
use Rattle.nn_model.specs.Namespace.{Path, Namespace, lookup}
use Rattle.nn_model.specs.Apply.{has_id, refusal, effect, applied}
use Rattle.nn_model.specs.Status.{block_at, due_in}
use Rattle.nn_model.specs.Touched.{touched, row_after, block_after, is_touched}
use Rattle.nn_model.specs.Blocks.{block_row_at}
use Rattle.nn_model.specs.WellFormed.{Includes, HasWellFormedBlocks, IsWellFormed, HasUtf8Names}
use Rattle.nn_model.specs.Log.{namespace_after, IsLog, run, counted, log_of, CountsUp, AreLawful}
use Rattle.nn_model.specs.Part.{has_name, part, rest, carried, names_in}

-- what is due in the first namespace is due in the second
abbrev pub KeepsDue : Namespace → Namespace → Type 0
KeepsDue n new = (id stamp : ℕ) → due_in n id stamp ≡ true → due_in new id stamp ≡ true

-- what is due in a namespace with well formed blocks is due after every edit that applies
abbrev pub DueStays : Type 0
DueStays = (n : Namespace) (edit : Edit) → HasWellFormedBlocks n → refusal n edit ≡ None → KeepsDue n (effect n edit)

-- an edit that applies keeps the blocks of a namespace well formed
abbrev pub BlocksStayWellFormed : Type 0
BlocksStayWellFormed = (n : Namespace) (edit : Edit) → IsLawfulEdit edit → refusal n edit ≡ None → HasWellFormedBlocks n → HasWellFormedBlocks (effect n edit)

-- an edit that applies keeps a namespace well formed
abbrev pub StaysWellFormed : Type 0
StaysWellFormed = (n : Namespace) (edit : Edit) → IsLawfulEdit edit → refusal n edit ≡ None → IsWellFormed n → IsWellFormed (effect n edit)

-- an edit that applies, and whose names are UTF-8, keeps the names of a namespace UTF-8
abbrev pub NamesStayUtf8 : Type 0
NamesStayUtf8 = (n : Namespace) (edit : Edit) → IsUtf8Edit edit → refusal n edit ≡ None → IsWellFormed n → HasUtf8Names n → HasUtf8Names (effect n edit)

-- a block's row shows the block
abbrev pub RowsShowBlocks : Type 0
RowsShowBlocks = (n : Namespace) (id : ℕ) → option_map (λ row. row.block) (block_row_at n id) ≡ block_at n id

-- what an edit that applies touched tells each block after it from the block before
abbrev pub TouchedTells : Type 0
TouchedTells = (n : Namespace) (edit : Edit) → IsLawfulEdit edit → refusal n edit ≡ None → IsWellFormed n →
    (id : ℕ) → block_at (effect n edit) id ≡ block_after (touched n edit) (block_at n id) id

-- it also tells whether the block's file is closed
abbrev pub RowsAreTold : Type 0
RowsAreTold = (n : Namespace) (edit : Edit) → IsLawfulEdit edit → refusal n edit ≡ None → IsWellFormed n →
    (id : ℕ) → block_row_at (effect n edit) id ≡ row_after (touched n edit) (block_row_at n id) id

-- an item becomes due by an edit only where the edit touched its block: changed it, retired it or passed it over
abbrev pub OnlyTouchedBecomeDue : Type 0
OnlyTouchedBecomeDue = (n : Namespace) (edit : Edit) → IsLawfulEdit edit → refusal n edit ≡ None → IsWellFormed n →
    (id stamp : ℕ) → is_touched (touched n edit) id ≡ false → due_in (effect n edit) id stamp ≡ due_in n id stamp

-- namespaces that answer alike, at every path and of every id, are one
abbrev pub EqualLookUps : Type 0
EqualLookUps = (n other : Namespace) → HasWellFormedBlocks n → HasWellFormedBlocks other → ((p : Path) → lookup n p ≡ lookup other p) →
    n.issued.last_block ≡ other.issued.last_block → n.issued.last_stamp ≡ other.issued.last_stamp → n.issued.profile ≡ other.issued.profile → ((id : ℕ) → has_id n.issued.awaiting id ≡ has_id other.issued.awaiting id) → n ≡ other

-- ---- Along a log.

-- a log keeps a namespace well formed
abbrev pub LogKeepsWellFormed : Type 0
LogKeepsWellFormed = (n : Namespace) (last : ℕ) (txs : List Tx) → AreLawful txs → IsLog n last txs → IsWellFormed n → IsWellFormed (namespace_after n txs)

-- a log keeps the blocks of a namespace well formed
abbrev pub LogKeepsBlocks : Type 0
LogKeepsBlocks =
    (n : Namespace) (last : ℕ) (txs : List Tx) → AreLawful txs → IsLog n last txs → HasWellFormedBlocks n → HasWellFormedBlocks (namespace_after n txs)

-- what is due before a log is due after it
abbrev pub LogKeepsDue : Type 0
LogKeepsDue = (n : Namespace) (last : ℕ) (txs : List Tx) → AreLawful txs → IsLog n last txs → HasWellFormedBlocks n → KeepsDue n (namespace_after n txs)

-- the namespace after a log and a further one is that of the further one after that of the first
abbrev pub NamespaceOfAppended : Type 0
NamespaceOfAppended = (n : Namespace) (txs more : List Tx) → namespace_after n (txs ++ more) ≡ namespace_after (namespace_after n txs) more

-- a log that goes on where another ends makes one log with it
abbrev pub AppendedLog : Type 0
AppendedLog =
    (n : Namespace) (last : ℕ) (txs more : List Tx) → IsLog n last txs → IsLog (namespace_after n txs) (last + length txs) more → IsLog n last (txs ++ more)

-- a log runs to its end
abbrev pub LogRuns : Type 0
LogRuns = (n : Namespace) (last : ℕ) (txs : List Tx) → IsLog n last txs → run n txs ≡ Ok (namespace_after n txs)

-- ---- Of segments.

-- the txids of what segments hold after a txid count up by one from it
abbrev pub LogCountsUp : Type 0
LogCountsUp = (last : ℕ) (segments : List (List Tx)) → CountsUp last (log_of last segments)

-- one more segment adds those of its transactions that count after the log so far
abbrev pub OneMoreSegment : Type 0
OneMoreSegment = (last : ℕ) (segments : List (List Tx)) (segment : List Tx) →
    log_of last (segments ++ segment ∷ []) ≡ log_of last segments ++ counted (last + length (log_of last segments)) segment

-- a segment with no new transaction adds nothing
abbrev pub OldAddsNothing : Type 0
OldAddsNothing = (last : ℕ) (segment : List Tx) → ((tx : Tx) → Includes segment tx → tx.txid ≤ last) → counted last segment ≡ []

-- a segment that begins above the next txid adds nothing
abbrev pub GapAddsNothing : Type 0
GapAddsNothing = (last before : ℕ) (segment : List Tx) → last < before → CountsUp before segment → counted last segment ≡ []

-- of a segment that begins no higher than the next txid, all that comes after the last one counts
abbrev pub OverlapAddsTheRest : Type 0
OverlapAddsTheRest = (last before : ℕ) (old new : List Tx) → CountsUp before (old ++ new) → before + length old ≡ last → counted last (old ++ new) ≡ new

-- ---- Of profiles.

-- the same namespace with this profile
abbrev pub in_profile : Profile → Namespace → Namespace
in_profile profile n = record n { issued = record n.issued { profile = profile } }

-- A log that applies to a namespace applies to it with profile 1 too, and the two namespaces after it differ in the profile alone.
abbrev pub LowerProfileGoesOn : Type 0
LowerProfileGoesOn = (n : Namespace) (last : ℕ) (txs : List Tx) → IsLog n last txs →
    IsLog (in_profile One n) last txs × (in_profile One (namespace_after (in_profile One n) txs) ≡ in_profile One (namespace_after n txs))

-- ---- Of the part of a namespace that a log is about.

-- An edit whose paths' names are all among these does to the part what it does to the whole: it is refused alike, or leaves the part of what it leaves.
abbrev pub EditOnThePart : Type 0
EditOnThePart = (names : List (List ℕ)) (n : Namespace) (edit : Edit) → list_all (has_name names) (names_in edit) ≡ true → IsWellFormed n →
    applied (part names n) edit ≡ result_map_both (part names) (λ fault. fault) (applied n edit)

-- so does a log: it stops at the same transaction for the same reason, or leaves the part of what it leaves
abbrev pub LogOnThePart : Type 0
LogOnThePart =
    (names : List (List ℕ)) (n : Namespace) (txs : List Tx) → list_all (has_name names) (flat_map (λ tx. names_in tx.edit) txs) ≡ true → IsWellFormed n →
    run (part names n) txs ≡ result_map_both (part names) (λ stop. stop) (run n txs)

-- an edit does nothing to the files of other names, but they go along with their directories
abbrev pub RestGoesAlong : Type 0
RestGoesAlong =
    (names : List (List ℕ)) (n : Namespace) (edit : Edit) → list_all (has_name names) (names_in edit) ≡ true → IsWellFormed n → refusal n edit ≡ None →
    rest names (effect n edit) ≡ carried (rest names n) edit

-- nor does a log
abbrev pub RestGoesAlongLog : Type 0
RestGoesAlongLog =
    (names : List (List ℕ)) (n : Namespace) (last : ℕ) (txs : List Tx) → list_all (has_name names) (flat_map (λ tx. names_in tx.edit) txs) ≡ true →
    IsWellFormed n → IsLog n last txs → rest names (namespace_after n txs) ≡ fold (λ rows tx. carried rows tx.edit) (rest names n) txs

-- the part of a well formed namespace is well formed
abbrev pub PartIsWellFormed : Type 0
PartIsWellFormed = (names : List (List ℕ)) (n : Namespace) → IsWellFormed n → IsWellFormed (part names n)
