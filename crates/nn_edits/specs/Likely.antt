-- What a name may be by its length and letters, before it is compared.
use Rattle.std.specs.Prelude.{ℕ, ◌==◌, if◌then◌else◌}
use Rattle.nn_types.specs.declared.report.Kind.{Kind}
use Rattle.nn_types.specs.declared.report.Kind.TheVariants.{Receiving, Received, Deleted, Begin, Listed, Finish}
use Rattle.nn_edits.specs.declared.reading.Op.{Op}
use Rattle.nn_edits.specs.declared.reading.Op.TheVariants.{StartSegment, EndSegment, Mkdir, Add, AddBlock, UpdateBlocks, Close, Append, Rename, Delete, SetReplication, AllocateBlockId, SetGenstamp}

-- The operation, by the name's length and its letters at places 3 and 7. The letters are A, E, M, R and S.
abbrev pub op_like : ℕ → ℕ → ℕ → Op
op_like len third seventh =
    if len == 8 then (if third == 77 then Mkdir else Close)
    else if len == 9 then (if third == 65 then Append else if third == 82 then Rename else Delete)
    else if len == 12 then AddBlock
    else if len == 16 then UpdateBlocks
    else if len == 18 then (if third == 69 then EndSegment else if seventh == 82 then SetReplication else SetGenstamp)
    else if len == 20 then (if third == 83 then StartSegment else AllocateBlockId)
    else Add

-- The kind, by the word's length.
abbrev pub kind_like : ℕ → Kind
kind_like len =
    if len == 6 then Listed else if len == 7 then Deleted else if len == 9 then Receiving
    else if len == 10 then Finish else if len == 12 then Begin else Received
