-- What is kept of arrays, an item further, and of the members of a block.
use Rattle.std.proofs.Common.{◌≡◌, ℕ, List, [], ◌∷◌, ◌++◌, cond, bytes_eq, codes, Option, Some, None, refl, sym, ap, ap₂, ◌∙◌}
use Rattle.std.specs.Prelude.{option_and_then}
use Rattle.serde_json.specs.Data.{Data, Items, null, boolean, number, string, array, no_items, item, Members, object, put}
use Rattle.serde_json.specs.Find.{as_array, as_object, get}
use Rattle.nn_plain.specs.Ahead.{with_last_item}
use Rattle.nn_plain.proofs.KeyLemmas.{member_put}
use Rattle.nn_plain.specs.Spelling.{whole_at, whole_of}
use Rattle.nn_image.specs.Arrays.{BlockParts, block_from, block_parts}
use Rattle.nn_image.specs.Reading.{◌>>=◌, block_of, gathered, limited, number_under, whole_value}

-- an item more
abbrev pub with_last : {B : Type 0} → Option B → Option (List B) → Option (List B)
with_last b bs = bs >>= λ xs. b >>= λ x. Some (xs ++ x ∷ [])

module _ {B : Type 0} (f : Data → Option B) where
  shifted : (x : B) (b : Option B) (bs : Option (List B)) → (with_last b bs >>= λ xs. Some (x ∷ xs)) ≡ with_last b (bs >>= λ xs. Some (x ∷ xs))
  shifted x b None = refl
  shifted x None (Some xs) = refl
  shifted x (Some y) (Some xs) = refl

  pub gathered_more : (ds : Items) (d : Data) → gathered f (with_last_item ds d) ≡ with_last (f d) (gathered f ds)
  unfolding gathered
  gathered_more no_items d = refl
  gathered_more (item e ds) d = at (f e) (gathered_more ds d)
    where
      at : (o : Option B) → gathered f (with_last_item ds d) ≡ with_last (f d) (gathered f ds)
          → (o >>= λ b. gathered f (with_last_item ds d) >>= λ bs. Some (b ∷ bs)) ≡ with_last (f d) (o >>= λ b. gathered f ds >>= λ bs. Some (b ∷ bs))
      at None more = refl
      at (Some x) more = ap (λ o. o >>= λ bs. Some (x ∷ bs)) more ∙ shifted x (f d) (gathered f ds)

  -- an item was none of them before, this one is none, and it is one
  pub none_more : (ds : Items) (d : Data) → gathered f ds ≡ None → gathered f (with_last_item ds d) ≡ None
  none_more ds d e = gathered_more ds d ∙ ap (with_last (f d)) e

  pub none_own : (ds : Items) (d : Data) → f d ≡ None → gathered f (with_last_item ds d) ≡ None
  none_own ds d e = gathered_more ds d ∙ ap (λ b. with_last b (gathered f ds)) e ∙ at (gathered f ds)
    where
      at : (o : Option (List B)) → with_last None o ≡ None
      at None = refl
      at (Some xs) = refl

  pub own_more : (ds : Items) (d : Data) (xs : List B) (x : B) → gathered f ds ≡ Some xs → f d ≡ Some x → gathered f (with_last_item ds d) ≡ Some (xs ++ x ∷ [])
  own_more ds d xs x e g = gathered_more ds d ∙ ap₂ with_last g e

-- ---- the members of a block

abbrev pub put_block : List ℕ → Option ℕ → BlockParts → BlockParts
put_block k n p = record {
  id = cond (bytes_eq k (codes "id")) n p.id;
  stamp = cond (bytes_eq k (codes "gen")) n p.stamp;
  len = cond (bytes_eq k (codes "len")) n p.len;
}

block_put : (k : List ℕ) (d : Data) (ms : Members) → block_parts (object (put k d ms)) ≡ put_block k (whole_of d) (block_parts (object ms))
block_put k d ms =
    rw (
      member_put (option_and_then whole_of) (codes "id") k d ms,
      member_put (option_and_then whole_of) (codes "gen") k d ms,
      member_put (option_and_then whole_of) (codes "len") k d ms,
    ) refl

pub member_kept : (k : List ℕ) (d : Data) (ms : Members) (n : Option ℕ) (old : BlockParts) → n ≡ whole_of d → old ≡ block_parts (object ms) → put_block k n old ≡ block_parts (object (put k d ms))
member_kept k d ms n old is kept = ap₂ (put_block k) is kept ∙ sym (block_put k d ms)

pub number_is : (key : List ℕ) (d : Data) → limited (whole_at key d) ≡ number_under key d
unfolding number_under
number_is key d = at (get key d)
  where
    at : (o : Option Data) → limited (option_and_then whole_of o) ≡ (o >>= whole_value)
    at None = refl
    at (Some v) = refl

pub block_is : (d : Data) → block_from (block_parts d) ≡ block_of d
unfolding block_from block_of
block_is d = rw (number_is (codes "id") d, number_is (codes "gen") d, number_is (codes "len") d) refl

-- what is no object is no block
pub no_block : (d : Data) → as_object d ≡ None → block_of d ≡ None
unfolding block_of number_under
no_block null e = refl
no_block (boolean b) e = refl
no_block (number n) e = refl
no_block (string s) e = refl
no_block (array ds) e = refl
no_block (object ms) e = absurd (cc)

-- nor an array
pub no_items_in : {B : Type 0} (f : Data → Option B) (d : Data) → as_array d ≡ None → (as_array d >>= gathered f) ≡ None
no_items_in f d e = ap (λ o. o >>= gathered f) e
