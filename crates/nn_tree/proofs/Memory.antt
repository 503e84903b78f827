-- No check of an edit finds that memory ran out.
use Rattle.std.proofs.Common.{◌≡◌, Bool, true, false, List, [], ◌∷◌, Option, Some, None}
use Rattle.nn_types.specs.declared.block.Block.{Block}
use Rattle.nn_types.specs.declared.edit.Edit.{Edit}
use Rattle.nn_types.specs.declared.edit.Edit.TheVariants.{StartSegment, EndSegment, Mkdir, Add, AddBlock, UpdateBlocks, Close, Append, Rename, Delete, SetReplication, AllocateBlockId, SetGenstamp}
use Rattle.nn_model.specs.declared.form.Form.{Form}
use Rattle.nn_model.specs.declared.form.Form.TheVariants.{Dir, File}
use Rattle.nn_types.specs.declared.edit_fault.EditFault.{EditFault}
use Rattle.nn_types.specs.declared.edit_fault.EditFault.TheVariants.{Exists, Missing, NotFile, NotOpen, IntoItself, WrongBlocks, BadGeneration, BadBlockId, BadReplication, NotClosed, LowerProfile, OutOfMemory}
use Rattle.nn_model.specs.Namespace.{Path, Namespace, lookup}
use Rattle.nn_model.specs.Apply.{first_fault, fault_if, is_root, in_directory, walk, checks, list_checks, refusal}

-- a check that does not find that memory ran out
abbrev IsOther : Option EditFault → Type 0
IsOther o = o ≡ Some OutOfMemory → ⊥

abbrev AreOthers : List (Option EditFault) → Type 0
AreOthers [] = Unit {0}
AreOthers (o ∷ os) = IsOther o × AreOthers os

other_first : (os : List (Option EditFault)) → AreOthers os → IsOther (first_fault os)
other_first [] h e = absurd (cc)
other_first (None ∷ os) h e = other_first os h.1 e
other_first (Some fault ∷ os) h e = h.0 e

other_when : (b : Bool) (fault : EditFault) → IsOther (Some fault) → IsOther (fault_if b fault)
other_when true fault h e = h e
other_when false fault h e = absurd (cc)

other_root : (p : Path) → IsOther (is_root p)
other_root [] e = absurd (cc)
other_root (name ∷ p) e = absurd (cc)

other_directory : (o : Option Form) (found : Option EditFault) → IsOther found → IsOther (in_directory o found)
other_directory None found h e = absurd (cc)
other_directory (Some Dir) found h e = h e
other_directory (Some (File file)) found h e = absurd (cc)

other_walk : (f : Path → Option Form) (p : Path) → IsOther (walk f p)
other_walk f [] e = absurd (cc)
other_walk f (name ∷ p) e = other_directory (f []) _ (other_walk (λ q. f (name ∷ q)) p) e

-- each fault of the table is another one
is_exists : IsOther (Some Exists)
is_exists e = absurd (cc)

is_missing : IsOther (Some Missing)
is_missing e = absurd (cc)

is_not_file : IsOther (Some NotFile)
is_not_file e = absurd (cc)

is_not_open : IsOther (Some NotOpen)
is_not_open e = absurd (cc)

is_into_itself : IsOther (Some IntoItself)
is_into_itself e = absurd (cc)

is_wrong_blocks : IsOther (Some WrongBlocks)
is_wrong_blocks e = absurd (cc)

is_bad_generation : IsOther (Some BadGeneration)
is_bad_generation e = absurd (cc)

is_bad_block_id : IsOther (Some BadBlockId)
is_bad_block_id e = absurd (cc)

is_lower_profile : IsOther (Some LowerProfile)
is_lower_profile e = absurd (cc)

is_not_closed : IsOther (Some NotClosed)
is_not_closed e = absurd (cc)

is_bad_replication : IsOther (Some BadReplication)
is_bad_replication e = absurd (cc)

others_of_list : (n : Namespace) (p : Path) (bs : List Block) → AreOthers (list_checks n p bs)
others_of_list n p bs = (other_root p, (other_walk (lookup n) p, (other_when _ Missing is_missing, (other_when _ NotFile is_not_file, (other_when _ NotOpen is_not_open, (other_when _ WrongBlocks is_wrong_blocks, (other_when _ BadGeneration is_bad_generation, tt)))))))

others : (n : Namespace) (edit : Edit) → AreOthers (checks n edit)
others n (StartSegment profile) = (other_when _ LowerProfile is_lower_profile, tt)
others n EndSegment = tt
others n (Mkdir p) = (other_root p, (other_walk (lookup n) p, (other_when _ Exists is_exists, tt)))
others n (Add p r) = (other_root p, (other_when _ BadReplication is_bad_replication, (other_walk (lookup n) p, (other_when _ Exists is_exists, tt))))
others n (AddBlock p i stamp) = (other_root p, (other_walk (lookup n) p, (other_when _ Missing is_missing, (other_when _ NotFile is_not_file, (other_when _ NotOpen is_not_open, (other_when _ BadBlockId is_bad_block_id, (other_when _ BadGeneration is_bad_generation, tt)))))))
others n (UpdateBlocks p bs) = others_of_list n p bs
others n (Close p bs) = others_of_list n p bs
others n (Append p) = (other_root p, (other_walk (lookup n) p, (other_when _ Missing is_missing, (other_when _ NotFile is_not_file, (other_when _ NotClosed is_not_closed, tt)))))
others n (Rename s d) = (other_root s, (other_root d, (other_walk (lookup n) s, (other_when _ Missing is_missing, (other_when _ IntoItself is_into_itself, (other_walk (lookup n) d, (other_when _ Exists is_exists, tt)))))))
others n (Delete p) = (other_root p, (other_walk (lookup n) p, (other_when _ Missing is_missing, tt)))
others n (SetReplication p r) = (other_root p, (other_when _ BadReplication is_bad_replication, (other_walk (lookup n) p, (other_when _ Missing is_missing, (other_when _ NotFile is_not_file, tt)))))
others n (AllocateBlockId i) = (other_when _ BadBlockId is_bad_block_id, tt)
others n (SetGenstamp stamp) = (other_when _ BadGeneration is_bad_generation, tt)

-- the definition never refuses an edit with out of memory
pub never_memory : (n : Namespace) (edit : Edit) → refusal n edit ≡ Some OutOfMemory → ⊥
never_memory n edit = other_first (checks n edit) (others n edit)
