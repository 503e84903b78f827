-- What is kept of a header is all that the definitions ask for.
use Rattle.std.specs.Prelude.{option_and_then}
use Rattle.std.specs.List.{list_all}
use Rattle.std.specs.Str.{IsUtf8}
use Rattle.std.proofs.Common.{◌≡◌, ◌⊎◌, ℕ, ◌<◌, ◌&&◌, List, ◌∷◌, Bool, true, false, cond, ltb, leb, leb-true, bytes_eq, codes, Option, Some, None, Err, inl, inr, refl, sym, ap, ap₂, ◌∙◌, subst, arith}
use Rattle.std.proofs.lemmas.Bool.{ltb-true}
use Rattle.serde_json.specs.Data.{Data, Items, no_items, item, Members, object, put}
use Rattle.serde_json.specs.Find.{as_array, as_str, get}
use Rattle.serde_json.specs.Read.{read}
use Rattle.nn_types.specs.declared.profile.Profile.{Profile}
use Rattle.nn_model.specs.Namespace.{Namespace}
use Rattle.nn_plain.specs.Spelling.{whole_at, whole_of}
use Rattle.nn_plain.proofs.KeyLemmas.{member_put, none_named, some_named}
use Rattle.nn_tree.specs.Restore.{bare, is_issued, rises}
use Rattle.nn_image.specs.Arrays.{awaiting_from, awaiting_of, ids_in}
use Rattle.nn_image.specs.HeaderParts.{HeaderParts, all_keys, by_version, fields_from, header_key, key_text, of_parts, parts_of, profile_from, put_at}
use Rattle.nn_image.specs.Reading.{◌>>=◌, array_under, fields_in, gathered, is_header, limited, number_under, whole_value, numbers_at, object_of, if_object, of_header, of_version, header_profile, text_under}
use Rattle.nn_image.specs.declared.fault.ImageFault.TheVariants.{NotHeader}
use Rattle.nn_image.specs.declared.header.HeaderKey.{HeaderKey}
use Rattle.nn_image.specs.declared.header.HeaderKey.TheVariants as key
use Rattle.nn_image.proofs.ArrayLemmas.{value_of_text}
use Rattle.nn_image.proofs.ItemReads.{number_is}

-- ---- a member that is put to others

abbrev put_all : List ℕ → Data → HeaderParts → HeaderParts
put_all k d p = record {
  image = cond (bytes_eq k (codes "image")) (as_str d) p.image;
  version = cond (bytes_eq k (codes "version")) (whole_of d) p.version;
  txid = cond (bytes_eq k (codes "txid")) (whole_of d) p.txid;
  last_block = cond (bytes_eq k (codes "last_block")) (whole_of d) p.last_block;
  last_stamp = cond (bytes_eq k (codes "last_gen")) (whole_of d) p.last_stamp;
  awaiting = cond (bytes_eq k (codes "awaiting")) (ids_in d) p.awaiting;
  profile = cond (bytes_eq k (codes "profile")) (whole_of d) p.profile;
}

parts_put : (k : List ℕ) (d : Data) (ms : Members) → parts_of (object (put k d ms)) ≡ put_all k d (parts_of (object ms))
unfolding text_under
parts_put k d ms =
    rw (
      member_put (λ o. o >>= as_str) (codes "image") k d ms,
      member_put (option_and_then whole_of) (codes "version") k d ms,
      member_put (option_and_then whole_of) (codes "txid") k d ms,
      member_put (option_and_then whole_of) (codes "last_block") k d ms,
      member_put (option_and_then whole_of) (codes "last_gen") k d ms,
      member_put (λ o. o >>= ids_in) (codes "awaiting") k d ms,
      member_put (option_and_then whole_of) (codes "profile") k d ms,
    ) refl

put_named : (x : HeaderKey) (d : Data) (p : HeaderParts) → put_all (key_text x) d p ≡ put_at x d p
put_named key.Image d p = refl
put_named key.Version d p = refl
put_named key.Txid d p = refl
put_named key.LastBlock d p = refl
put_named key.LastStamp d p = refl
put_named key.Awaiting d p = refl
put_named key.Profile d p = refl

module _ (k : List ℕ) (d : Data) (ms : Members) where
  pub key_put : (x : HeaderKey) (p : HeaderParts) → header_key k ≡ Some x → p ≡ parts_of (object ms) → put_at x d p ≡ parts_of (object (put k d ms))
  unfolding header_key
  key_put x p e old = sym (put_named x d p) ∙ ap₂ (λ (n : List ℕ) (q : HeaderParts). put_all n d q) (sym (some_named key_text k all_keys x e)) old ∙ sym (parts_put k d ms)

  pub no_key_put : (p : HeaderParts) → header_key k ≡ None → p ≡ parts_of (object ms) → p ≡ parts_of (object (put k d ms))
  unfolding header_key
  no_key_put p e old = same p ∙ ap (put_all k d) old ∙ sym (parts_put k d ms)
    where
      same : (p : HeaderParts) → p ≡ put_all k d p
      same p = let no = none_named key_text k all_keys e in rw (no.0, no.1.0, no.1.1.0, no.1.1.1.0, no.1.1.1.1.0, no.1.1.1.1.1.0, no.1.1.1.1.1.1.0) refl

-- ---- ids that await

-- where one of them can be no block's, no header has them
abbrev Fit : Option (List ℕ) → Option (List ℕ) → Type 0
Fit kept ids = (kept ≡ ids) ⊎ ((kept ≡ None) × ((last : ℕ) (xs : List ℕ) → ids ≡ Some xs → list_all (is_issued last) xs ≡ false))

too_low : (last id : ℕ) → ltb id 1073741825 ≡ true → is_issued last id ≡ false
too_low last id low = let less : id < 1073741825 = ltb-true id 1073741825 low in ap (λ t. t && leb id last) (above 1073741825 id less)
  where
    above : (a b : ℕ) → b < a → leb a b ≡ false
    above a b h = at (leb a b) refl
      where
        at : (t : Bool) → leb a b ≡ t → t ≡ false
        at true e = absurd (omega (arith, leb-true a b e, h))
        at false e = refl

all_false : (f : ℕ → Bool) (x : ℕ) (xs : List ℕ) → list_all f xs ≡ false → list_all f (x ∷ xs) ≡ false
all_false f x xs e = at (f x)
  where
    at : (t : Bool) → (t && list_all f xs) ≡ false
    at true = e
    at false = refl

one_more : (n : Option ℕ) (kept ids : Option (List ℕ)) → Fit kept ids
    → Fit (awaiting_from n >>= λ x. kept >>= λ xs. Some (x ∷ xs)) (limited n >>= λ x. ids >>= λ xs. Some (x ∷ xs))
unfolding awaiting_from
one_more n kept ids fit = at (limited n)
  where
    low : (x : ℕ) (ids : Option (List ℕ)) → ltb x 1073741825 ≡ true → (last : ℕ) (xs : List ℕ) → (ids >>= λ xs. Some (x ∷ xs)) ≡ Some xs → list_all (is_issued last) xs ≡ false
    low x None e last xs is = absurd (cc)
    low x (Some ys) e last xs is =
        let same : x ∷ ys ≡ xs = cc in
        subst (λ l. list_all (is_issued last) l ≡ false) same (ap (λ t. t && list_all (is_issued last) ys) (too_low last x e))

    later : (x : ℕ) (ids : Option (List ℕ)) → ((last : ℕ) (xs : List ℕ) → ids ≡ Some xs → list_all (is_issued last) xs ≡ false)
        → (last : ℕ) (xs : List ℕ) → (ids >>= λ xs. Some (x ∷ xs)) ≡ Some xs → list_all (is_issued last) xs ≡ false
    later x None h last xs is = absurd (cc)
    later x (Some ys) h last xs is =
        let same : x ∷ ys ≡ xs = cc in
        subst (λ l. list_all (is_issued last) l ≡ false) same (all_false (is_issued last) x ys (h last ys refl))

    own : (x : ℕ) (t : Bool) → ltb x 1073741825 ≡ t → Fit kept ids → Fit ((cond t None (Some x)) >>= λ x. kept >>= λ xs. Some (x ∷ xs)) (ids >>= λ xs. Some (x ∷ xs))
    own x true e f = inr (refl, low x ids e)
    own x false e (inl same) = inl (ap (λ o. o >>= λ xs. Some (x ∷ xs)) same)
    own x false e (inr none) = inr (ap (λ o. o >>= λ xs. Some (x ∷ xs)) none.0, later x ids none.1)

    at : (o : Option ℕ) → Fit ((o >>= λ id. cond (ltb id 1073741825) None (Some id)) >>= λ x. kept >>= λ xs. Some (x ∷ xs)) (o >>= λ x. ids >>= λ xs. Some (x ∷ xs))
    at None = inl refl
    at (Some x) = own x (ltb x 1073741825) refl fit

gathered_fit : (ds : Items) → Fit (gathered awaiting_of ds) (gathered whole_value ds)
unfolding gathered
gathered_fit no_items = inl refl
gathered_fit (item d ds) = one_more (whole_of d) (gathered awaiting_of ds) (gathered whole_value ds) (gathered_fit ds)

ids_fit : (d : Data) → Fit (get (codes "awaiting") d >>= ids_in) (numbers_at (codes "awaiting") d)
unfolding numbers_at array_under
ids_fit d = at (get (codes "awaiting") d)
  where
    items : (o : Option Items) → Fit (o >>= gathered awaiting_of) (o >>= gathered whole_value)
    items None = inl refl
    items (Some ds) = gathered_fit ds

    at : (o : Option Data) → Fit (o >>= ids_in) ((o >>= as_array) >>= gathered whole_value)
    at None = inl refl
    at (Some v) = items (as_array v)

-- ---- what a header says

then_same : {A B : Type 0} (o : Option A) (f g : A → Option B) → ((x : A) → f x ≡ g x) → (o >>= f) ≡ (o >>= g)
then_same None f g h = refl
then_same (Some x) f g h = h x

then_none : {A B : Type 0} (o : Option A) (f : A → Option B) → ((x : A) → f x ≡ None) → (o >>= f) ≡ None
then_none None f h = refl
then_none (Some x) f h = h x

no_header : (mark : List ℕ) (last_block last_stamp : ℕ) (ids : List ℕ) → list_all (is_issued last_block) ids ≡ false → is_header mark last_block last_stamp ids ≡ false
no_header mark last_block last_stamp ids e = at (bytes_eq mark (codes "hdfs-standby") && leb 1073741824 last_block && leb 1000 last_stamp)
  where
    at : (t : Bool) → (t && (list_all (is_issued last_block) ids && rises ids)) ≡ false
    at true = ap (λ u. u && rises ids) e
    at false = refl

module _ (mark : List ℕ) (txid last_block last_stamp : ℕ) (profile : Option Profile) where
  abbrev Says : List ℕ → Option (Namespace × ℕ)
  Says ids = profile >>= λ p. cond (is_header mark last_block last_stamp ids) (Some (bare (record { last_block = last_block; last_stamp = last_stamp; awaiting = ids; profile = p }), txid)) None

  ids_say : (kept ids : Option (List ℕ)) → Fit kept ids → (kept >>= Says) ≡ (ids >>= Says)
  ids_say kept ids (inl same) = ap (λ o. o >>= Says) same
  ids_say kept ids (inr none) = ap (λ o. o >>= Says) none.0 ∙ sym (nothing ids none.1)
    where
      nothing : (ids : Option (List ℕ)) → ((last : ℕ) (xs : List ℕ) → ids ≡ Some xs → list_all (is_issued last) xs ≡ false) → (ids >>= Says) ≡ None
      nothing None h = refl
      nothing (Some xs) h = then_none profile _ (λ p. rw (no_header mark last_block last_stamp xs (h last_block xs refl)) refl)

profile_is : (v : ℕ) (d : Data) → profile_from v (whole_at (codes "profile") d) ≡ header_profile v d
unfolding profile_from header_profile
profile_is v d = rw (number_is (codes "profile") d) refl

fields_are : (v : ℕ) (d : Data) → fields_from v (parts_of d) ≡ fields_in v d
unfolding fields_from fields_in
fields_are v d =
    rw (number_is (codes "txid") d, number_is (codes "last_block") d, number_is (codes "last_gen") d, profile_is v d)
    (then_same (text_under (codes "image") d) _ _ (λ mark. then_same (number_under (codes "txid") d) _ _ (λ txid. then_same (number_under (codes "last_block") d) _ _ (λ last_block. then_same (number_under (codes "last_gen") d) _ _ (λ last_stamp.
    ids_say mark txid last_block last_stamp (header_profile v d) (get (codes "awaiting") d >>= ids_in) (numbers_at (codes "awaiting") d) (ids_fit d))))))

says : (d : Data) → of_parts (parts_of d) ≡ of_version d (number_under (codes "version") d)
says d = ap (by_version (parts_of d)) (number_is (codes "version") d) ∙ at (number_under (codes "version") d)
  where
    at : (o : Option ℕ) → by_version (parts_of d) o ≡ of_version d o
    at None = refl
    at (Some v) = rw (fields_are v d) refl

pub header_says : (line : List ℕ) (ms : Members) (p : HeaderParts) → IsUtf8 line → read line ≡ Some (object ms) → p ≡ parts_of (object ms) → of_parts p ≡ of_header (object_of line)
unfolding object_of
header_says line ms p text e kept =
    let there : object_of line ≡ Some (object ms) = ap (λ v. v >>= if_object) (value_of_text line (object ms) text e) in
    ap of_parts kept ∙ says (object ms) ∙ ap of_header (sym there)

pub none_says : (line : List ℕ) → object_of line ≡ None → of_header (object_of line) ≡ Err NotHeader
none_says line none = ap of_header none
