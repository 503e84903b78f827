-- A name is that of the operation which it may be, or of none. So with kinds.
use Rattle.std.proofs.Common.{◌≡◌, ℕ, List, length, get_or, Option, Some, None, refl, sym, ap, ◌∙◌}
use Rattle.nn_types.specs.Words.{kind_text}
use Rattle.nn_types.specs.declared.report.Kind.{Kind}
use Rattle.nn_types.specs.declared.report.Kind.TheVariants.{Receiving, Received, Deleted, Begin, Listed, Finish}
use Rattle.nn_edits.specs.Likely.{op_like, kind_like}
use Rattle.nn_edits.specs.Reading.{op_text, all_ops, op_of, all_kinds, kind_of}
use Rattle.nn_edits.specs.declared.reading.Op.{Op}
use Rattle.nn_edits.specs.declared.reading.Op.TheVariants as op
use Rattle.nn_edits.proofs.Members.{op_of_text, kind_of_text}
use Rattle.nn_edits.proofs.Results.{first_named_some}

abbrev like : List ℕ → Op
like name = op_like (length name) (get_or name 3 0) (get_or name 7 0)

like_text : (o : Op) → like (op_text o) ≡ o
like_text op.StartSegment = refl
like_text op.EndSegment = refl
like_text op.Mkdir = refl
like_text op.Add = refl
like_text op.AddBlock = refl
like_text op.UpdateBlocks = refl
like_text op.Close = refl
like_text op.Append = refl
like_text op.Rename = refl
like_text op.Delete = refl
like_text op.SetReplication = refl
like_text op.AllocateBlockId = refl
like_text op.SetGenstamp = refl

pub op_found : (name : List ℕ) (o : Op) → name ≡ op_text o → Some o ≡ op_of name
op_found name o is = sym (ap op_of is ∙ op_of_text o)

pub no_op : (name : List ℕ) (o : Op) → o ≡ op_like (length name) (get_or name 3 0) (get_or name 7 0) → (name ≡ op_text o → ⊥) → None ≡ op_of name
unfolding op_of
no_op name o may differs = at (op_of name) refl
  where
    at : (found : Option Op) → op_of name ≡ found → None ≡ op_of name
    at None e = sym e
    at (Some x) e =
        let is : name ≡ op_text x = first_named_some op_text name all_ops x e in
        let same : x ≡ o = sym (like_text x) ∙ ap like (sym is) ∙ sym may in
        absurd (differs (is ∙ ap op_text same))

kind_like_text : (k : Kind) → kind_like (length (kind_text k)) ≡ k
kind_like_text Receiving = refl
kind_like_text Received = refl
kind_like_text Deleted = refl
kind_like_text Begin = refl
kind_like_text Listed = refl
kind_like_text Finish = refl

pub kind_found : (word : List ℕ) (k : Kind) → word ≡ kind_text k → Some k ≡ kind_of word
kind_found word k is = sym (ap kind_of is ∙ kind_of_text k)

pub no_kind : (word : List ℕ) (k : Kind) → k ≡ kind_like (length word) → (word ≡ kind_text k → ⊥) → None ≡ kind_of word
unfolding kind_of
no_kind word k may differs = at (kind_of word) refl
  where
    at : (found : Option Kind) → kind_of word ≡ found → None ≡ kind_of word
    at None e = sym e
    at (Some x) e =
        let is : word ≡ kind_text x = first_named_some kind_text word all_kinds x e in
        let same : x ≡ k = sym (kind_like_text x) ∙ ap (λ w. kind_like (length w)) (sym is) ∙ sym may in
        absurd (differs (is ∙ ap kind_text same))
