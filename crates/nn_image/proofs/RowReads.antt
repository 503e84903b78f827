-- What is kept of a line behind the header is all that the definitions ask for.
use Rattle.std.specs.Prelude.{is_some, option_and_then, option_map}
use Rattle.std.proofs.Common.{◌≡◌, ℕ, ◌≤◌, ◌^◌, List, [], ◌∷◌, Bool, true, false, cond, ltb, leb, ◌&&◌, bytes_eq, Option, Some, None, codes, refl, sym, ap, ap₂, ◌∙◌, arith, lt-ltb, leb-true}
use Rattle.std.proofs.lemmas.Bool.{ltb-false}
use Rattle.std.specs.Str.{IsUtf8}
use Rattle.serde_json.specs.Data.{Data, Items, null, boolean, number, string, no_items, item, Members, array, object, put}
use Rattle.serde_json.specs.Find.{get, as_array, as_bool, as_str}
use Rattle.serde_json.specs.Read.{read}
use Rattle.nn_types.specs.Number.{IsNumber}
use Rattle.nn_types.specs.Block.{IsBlock, AreBlocks}
use Rattle.nn_types.specs.Path.{path_of}
use Rattle.nn_types.specs.declared.block.Block.{Block}
use Rattle.nn_model.specs.declared.form.Form.{Form}
use Rattle.nn_model.specs.declared.form.Form.TheVariants.{File}
use Rattle.nn_model.specs.Namespace.{Path}
use Rattle.nn_plain.specs.Ahead.{LacksObject}
use Rattle.nn_plain.specs.Spelling.{Spells, SpellsBlock, SpellsBlocks, whole_of, whole_at}
use Rattle.nn_plain.specs.declared.value.Plain.{Plain}
use Rattle.nn_plain.specs.declared.value.Plain.TheVariants.{Text, Whole, Truth}
use Rattle.nn_plain.proofs.KeyLemmas.{member_put, none_named, some_named}
use Rattle.nn_tree.specs.Restore.{replication_fits}
use Rattle.nn_image.specs.Loading.{by_read, is_end_row, IsReadAs}
use Rattle.nn_image.specs.RowParts.{RowParts, parts_of, key_text, all_keys, row_key, put_at, file_from, form_from, row_from, row_or_bad, line_by, line_from}
use Rattle.nn_image.specs.Reading.{◌>>=◌, ◌then◌, limited, number_under, text_under, flag_under, array_under, path_under, block_of, gathered, blocks_at, replication_value, file_in, form_by_kind, form_in, row_of_line, by_key, by_value, with_next_row, if_object, object_of, value_of_line, has_end, is_end_line}
use Rattle.nn_image.specs.declared.row_line.RowLine.TheVariants.{Bad}
use Rattle.nn_image.proofs.ArrayLemmas.{value_of_text, value_of_none}
use Rattle.nn_image.specs.declared.row_members.RowKey.{RowKey}
use Rattle.nn_image.specs.declared.row_members.RowKey.TheVariants as key

-- ---- blocks

number_read : (name : List ℕ) (d : Data) (n : ℕ) → whole_at name d ≡ Some n → IsNumber n → number_under name d ≡ Some n
unfolding number_under
number_read name d n e small = at (get name d) refl e
  where
    at : (o : Option Data) → get name d ≡ o → option_and_then whole_of o ≡ Some n → number_under name d ≡ Some n
    at None there e = absurd (cc)
    at (Some v) there e = rw (there, e, lt-ltb n (2 ^ 63) small) refl

block_read : (d : Data) (b : Block) → SpellsBlock d b → IsBlock b → block_of d ≡ Some b
unfolding block_of
block_read d b so lawful = rw (number_read (codes "id") d b.id so.id lawful.0, number_read (codes "gen") d b.stamp so.stamp lawful.1, number_read (codes "len") d b.len so.len lawful.2) refl

pub blocks_read : (ds : Items) (bs : List Block) → SpellsBlocks ds bs → AreBlocks bs → gathered block_of ds ≡ Some bs
unfolding gathered
blocks_read no_items [] so lawful = refl
blocks_read no_items (b ∷ bs) so lawful = absurd so
blocks_read (item d ds) [] so lawful = absurd so
blocks_read (item d ds) (b ∷ bs) so lawful = rw (block_read d b so.0 lawful.0, blocks_read ds bs so.1 lawful.1) refl

-- no other plain value has blocks
pub no_blocks_read : (d : Data) (v : Plain) → Spells d v → (as_array d >>= gathered block_of) ≡ None
no_blocks_read d (Text s) e = ap (λ v. as_array v >>= gathered block_of) e
no_blocks_read d (Whole n) e = ap (λ v. as_array v >>= gathered block_of) e
no_blocks_read d (Truth b) e = ap (λ v. as_array v >>= gathered block_of) e

-- ---- a member that is put to others

abbrev put_all : List ℕ → Data → RowParts → RowParts
put_all k d p = record {
  path = cond (bytes_eq k (codes "path")) (as_str d) p.path;
  kind = cond (bytes_eq k (codes "type")) (as_str d) p.kind;
  blocks = cond (bytes_eq k (codes "blocks")) (as_array d >>= gathered block_of) p.blocks;
  closed = cond (bytes_eq k (codes "closed")) (as_bool d) p.closed;
  replication = cond (bytes_eq k (codes "replication")) (whole_of d) p.replication;
  end = cond (bytes_eq k (codes "end")) (Some (whole_of d)) p.end;
}

parts_put : (k : List ℕ) (d : Data) (ms : Members) → parts_of (object (put k d ms)) ≡ put_all k d (parts_of (object ms))
unfolding text_under flag_under array_under blocks_at
parts_put k d ms =
    rw (
      member_put (λ o. o >>= as_str) (codes "path") k d ms,
      member_put (λ o. o >>= as_str) (codes "type") k d ms,
      member_put (λ o. (o >>= as_array) >>= gathered block_of) (codes "blocks") k d ms,
      member_put (λ o. o >>= as_bool) (codes "closed") k d ms,
      member_put (option_and_then whole_of) (codes "replication") k d ms,
      member_put (option_map whole_of) (codes "end") k d ms,
    ) refl

put_named : (x : RowKey) (d : Data) (p : RowParts) → put_all (key_text x) d p ≡ put_at x d p
put_named key.Path d p = refl
put_named key.Kind d p = refl
put_named key.Blocks d p = refl
put_named key.Closed d p = refl
put_named key.Replication d p = refl
put_named key.End d p = refl

module _ (k : List ℕ) (d : Data) (ms : Members) where
  pub key_put : (x : RowKey) (p : RowParts) → row_key k ≡ Some x → p ≡ parts_of (object ms) → put_at x d p ≡ parts_of (object (put k d ms))
  unfolding row_key
  key_put x p e old = sym (put_named x d p) ∙ ap₂ (λ (n : List ℕ) (q : RowParts). put_all n d q) (sym (some_named key_text k all_keys x e)) old ∙ sym (parts_put k d ms)

  pub no_key_put : (p : RowParts) → row_key k ≡ None → p ≡ parts_of (object ms) → p ≡ parts_of (object (put k d ms))
  unfolding row_key
  no_key_put p e old = same p ∙ ap (put_all k d) old ∙ sym (parts_put k d ms)
    where
      same : (p : RowParts) → p ≡ put_all k d p
      same p = let no = none_named key_text k all_keys e in rw (no.0, no.1.0, no.1.1.0, no.1.1.1.0, no.1.1.1.1.0, no.1.1.1.1.1.0) refl

-- ---- rows

-- a replication has no need of the limit of numbers
replication_is : (d : Data) (g : ℕ → Form) → (whole_at (codes "replication") d >>= λ r. cond (replication_fits r) (Some (g r)) None) ≡ (replication_value d >>= λ r. Some (g r))
unfolding replication_value number_under
replication_is d g = at (get (codes "replication") d) refl
  where
    fits : (r : ℕ) (t : Bool) → replication_fits r ≡ t → cond t (Some (g r)) None ≡ ((cond t (Some r) None) >>= λ r. Some (g r))
    fits r true e = refl
    fits r false e = refl

    too_large : (r : ℕ) (t : Bool) → replication_fits r ≡ t → ltb r (2 ^ 63) ≡ false → cond t (Some (g r)) None ≡ None
    too_large r true e large = let within : r ≤ 512 = leb-true r 512 (both (leb 1 r) (leb r 512) e) in absurd (omega (arith, within, ltb-false r (2 ^ 63) large))
      where
        both : (a b : Bool) → (a && b) ≡ true → b ≡ true
        both true b e = e
        both false b e = absurd (cc)
    too_large r false e large = refl

    number : (r : ℕ) (t : Bool) → ltb r (2 ^ 63) ≡ t → cond (replication_fits r) (Some (g r)) None ≡ (((cond t (Some r) None) >>= λ r. cond (replication_fits r) (Some r) None) >>= λ r. Some (g r))
    number r true e = fits r (replication_fits r) refl
    number r false e = too_large r (replication_fits r) refl e

    whole : (o : Option ℕ) → (o >>= λ r. cond (replication_fits r) (Some (g r)) None) ≡ ((limited o >>= λ r. cond (replication_fits r) (Some r) None) >>= λ r. Some (g r))
    whole None = refl
    whole (Some r) = number r (ltb r (2 ^ 63)) refl

    at : (o : Option Data) → get (codes "replication") d ≡ o → (whole_at (codes "replication") d >>= λ r. cond (replication_fits r) (Some (g r)) None) ≡ (replication_value d >>= λ r. Some (g r))
    at None e = rw e refl
    at (Some v) e = rw e (whole (whole_of v))

then_same : {A B : Type 0} (o : Option A) (f g : A → Option B) → ((x : A) → f x ≡ g x) → (o >>= f) ≡ (o >>= g)
then_same None f g h = refl
then_same (Some x) f g h = h x

then_then : {A B C : Type 0} (o : Option A) (f : A → Option B) (g : B → Option C) → ((o >>= f) >>= g) ≡ (o >>= λ x. f x >>= g)
then_then None f g = refl
then_then (Some x) f g = refl

file_is : (d : Data) → file_from (parts_of d) ≡ file_in d
unfolding file_from file_in
file_is d = then_same (blocks_at (codes "blocks") d) _ _ (λ blocks. then_same (flag_under (codes "closed") d) _ _ (λ closed. replication_is d (λ r. File (record { replication = r; closed = closed; blocks = blocks }))))

form_is : (d : Data) → form_from (parts_of d) ≡ form_in d
unfolding form_from form_in form_by_kind
form_is d = rw (file_is d) refl

row_is : (d : Data) → row_from (parts_of d) ≡ row_of_line d
unfolding row_from row_of_line path_under
row_is d = rw (form_is d) (sym (then_then (text_under (codes "path") d) path_of (λ path. form_in d >>= λ form. Some (path, form))))

-- ---- lines

-- what the members of an object are read as
pub line_read : (line : List ℕ) (ms : Members) (p : RowParts) → IsUtf8 line → read line ≡ Some (object ms) → p ≡ parts_of (object ms) → IsReadAs line (line_from p)
unfolding object_of
line_read line ms p text e kept n pieces more =
    let d = object ms in
    let there : object_of line ≡ Some d = ap (λ v. v >>= if_object) (value_of_text line d text e) in
    ap (by_value n pieces more) there ∙ at (get (codes "end") d) ∙ ap (λ q. by_read n pieces more (line_from q)) (sym kept)
  where
    row : (o : Option (Path × Form)) → (with_next_row n o then more) ≡ by_read n pieces more (row_or_bad o)
    row None = refl
    row (Some r) = refl

    at : (o : Option Data) → by_key n (object ms) pieces more o ≡ by_read n pieces more (line_by (option_map whole_of o) (parts_of (object ms)))
    at None = row (row_of_line (object ms)) ∙ ap (λ o. by_read n pieces more (row_or_bad o)) (sym (row_is (object ms)))
    at (Some count) = refl

pub no_line_read : (line : List ℕ) → object_of line ≡ None → IsReadAs line Bad
no_line_read line none n pieces more = ap (by_value n pieces more) none

-- a line that is no text, or no object
pub no_text_there : (line : List ℕ) → (IsUtf8 line → ⊥) → object_of line ≡ None
unfolding object_of
no_text_there line never = ap (λ v. v >>= if_object) (value_of_none line (λ text. absurd (never text)))

pub no_object_there : (line : List ℕ) → IsUtf8 line → LacksObject line → object_of line ≡ None
unfolding object_of
no_object_there line text lacks = at (read line) refl
  where
    only : (d : Data) → read line ≡ Some d → if_object d ≡ None
    only null e = refl
    only (boolean b) e = refl
    only (number n) e = refl
    only (string s) e = refl
    only (array ds) e = refl
    only (object ms) e = absurd (lacks ms e)

    at : (o : Option Data) → read line ≡ o → (value_of_line line >>= if_object) ≡ None
    at None e = ap (λ v. v >>= if_object) (value_of_none line (λ _. e))
    at (Some d) e = ap (λ v. v >>= if_object) (value_of_text line d text e) ∙ only d e

-- ---- the end line

pub ends_as : (line : List ℕ) (ms : Members) (p : RowParts) → IsUtf8 line → read line ≡ Some (object ms) → p ≡ parts_of (object ms) → is_end_row (line_from p) ≡ is_end_line line
unfolding is_end_line object_of
ends_as line ms p text e kept =
    let there : object_of line ≡ Some (object ms) = ap (λ v. v >>= if_object) (value_of_text line (object ms) text e) in
    ap (λ q. is_end_row (line_from q)) kept ∙ at (get (codes "end") (object ms)) ∙ ap has_end (sym there)
  where
    no_end : (o : Option (Path × Form)) → is_end_row (row_or_bad o) ≡ false
    no_end None = refl
    no_end (Some r) = refl

    at : (o : Option Data) → is_end_row (line_by (option_map whole_of o) (parts_of (object ms))) ≡ is_some o
    at None = no_end (row_from (parts_of (object ms)))
    at (Some count) = refl

pub none_ends : (line : List ℕ) → object_of line ≡ None → false ≡ is_end_line line
unfolding is_end_line
none_ends line none = ap has_end (sym none)
