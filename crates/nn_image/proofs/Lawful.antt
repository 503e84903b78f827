-- What is read of a line keeps the limits of the types.
use Rattle.std.proofs.Common.{◌≡◌, ℕ, ◌<◌, ◌^◌, List, [], ◌∷◌, Bool, true, false, cond, ◌&&◌, ◌||◌, Option, Some, None, Ok, Err, refl, ap, subst, ◌∙◌, codes, leb, ltb, leb-true}
use Rattle.std.specs.Str.{bytes_eq}
use Rattle.std.specs.Prelude.{option_and_then}
use Rattle.std.specs.Option.{ok_or}
use Rattle.std.proofs.Common.{eqb}
use Rattle.std.proofs.lemmas.Bool.{ltb-true}
use Rattle.serde_json.specs.Data.{Data, Items, no_items, item}
use Rattle.serde_json.specs.Find.{get, as_number, as_u64}
use Rattle.nn_types.specs.Number.{IsNumber}
use Rattle.nn_types.specs.Block.{AreBlocks}
use Rattle.nn_types.specs.Path.{IsPath, path_of}
use Rattle.nn_types.proofs.Paths.{path_of_spelled}
use Rattle.nn_types.specs.declared.block.Block.{Block}
use Rattle.nn_model.specs.declared.form.Form.{Form}
use Rattle.nn_model.specs.declared.form.Form.TheVariants.{Dir, File}
use Rattle.nn_model.specs.Namespace.{Path, Namespace}
use Rattle.nn_model.specs.WellFormed.{IsWellFormed}
use Rattle.nn_tree.specs.Restore.{bare, awaiting_fits, replication_fits}
use Rattle.nn_tree.proofs.Restored.{bare_is_well_formed}
use Rattle.nn_tree.proofs.RestoredFile.{IsLawfulForm}
use Rattle.nn_image.specs.declared.fault.ImageFault.TheVariants.{NotHeader, BadVersion}
use Rattle.nn_image.specs.Reading.{◌>>=◌, limited, whole_value, number_under, text_under, flag_under, array_under, path_under, block_of, gathered, blocks_at, numbers_at, replication_value, file_in, form_by_kind, form_in, row_of_line, is_header, header_profile, fields_in, of_version, of_header}
use Rattle.nn_image.proofs.Rows.{and_true}

-- what a chain of steps went through
bound : {A B : Type 0} (o : Option A) (f : A → Option B) (y : B) → (o >>= f) ≡ Some y → (x : A) × (o ≡ Some x) × (f x ≡ Some y)
bound None f y e = absurd (cc)
bound (Some x) f y e = (x, refl, e)

picked : {A : Type 0} (b : Bool) (x y : A) → cond b (Some x) None ≡ Some y → (b ≡ true) × (x ≡ y)
picked true x y e = (refl, (cc))
picked false x y e = absurd (cc)

small : (o : Option ℕ) (k : ℕ) → limited o ≡ Some k → IsNumber k
small None k e = absurd (cc)
small (Some n) k e = let both = picked (ltb n (2 ^ 63)) n k e in subst IsNumber both.1 (ltb-true n (2 ^ 63) both.0)

pub number_small : (d : Data) (k : ℕ) → whole_value d ≡ Some k → k < 2 ^ 63
number_small d k e = small (option_and_then as_u64 (as_number d)) k e

small_in : (key : List ℕ) (d : Data) (k : ℕ) → number_under key d ≡ Some k → IsNumber k
unfolding number_under
small_in key d k e = let v = bound (get key d) whole_value k e in small (option_and_then as_u64 (as_number v.0)) k v.2

block_small : (d : Data) (b : Block) → block_of d ≡ Some b → IsNumber b.id × IsNumber b.stamp × IsNumber b.len
unfolding block_of
block_small d b e =
    let id = bound (number_under (codes "id") d) _ b e in
    let stamp = bound (number_under (codes "gen") d) _ b id.2 in
    let len = bound (number_under (codes "len") d) _ b stamp.2 in
    let is : record { id = id.0; stamp = stamp.0; len = len.0 } ≡ b = cc in
    subst (λ (x : Block). IsNumber x.id × IsNumber x.stamp × IsNumber x.len) is (small_in _ d id.0 id.1, small_in _ d stamp.0 stamp.1, small_in _ d len.0 len.1)

all_small : (items : Items) (bs : List Block) → gathered block_of items ≡ Some bs → AreBlocks bs
unfolding gathered
all_small no_items bs e = let none : [] ≡ bs = cc in subst AreBlocks none tt
all_small (item d ds) bs e =
    let b = bound (block_of d) _ bs e in
    let rest = bound (gathered block_of ds) _ bs b.2 in
    let is : b.0 ∷ rest.0 ≡ bs = cc in
    subst AreBlocks is (block_small d b.0 b.1, all_small ds rest.0 rest.1)

file_lawful : (d : Data) (form : Form) → file_in d ≡ Some form → IsLawfulForm form
unfolding file_in blocks_at replication_value
file_lawful d form e =
    let blocks = bound (array_under (codes "blocks") d >>= gathered block_of) _ form e in
    let closed = bound (flag_under (codes "closed") d) _ form blocks.2 in
    let replication = bound (number_under (codes "replication") d >>= λ r. cond (replication_fits r) (Some r) None) _ form closed.2 in
    let items = bound (array_under (codes "blocks") d) (gathered block_of) blocks.0 blocks.1 in
    let number = bound (number_under (codes "replication") d) _ replication.0 replication.1 in
    let fits = picked (replication_fits number.0) number.0 replication.0 number.2 in
    let is : File (record { replication = replication.0; closed = closed.0; blocks = blocks.0 }) ≡ form = cc in
    subst IsLawfulForm is (subst IsNumber fits.1 (small_in _ d number.0 number.1), all_small items.0 blocks.0 items.2)

form_lawful : (d : Data) (form : Form) → form_in d ≡ Some form → IsLawfulForm form
unfolding form_in form_by_kind
form_lawful d form e =
    let kind = bound (text_under (codes "type") d) _ form e in
    at (bytes_eq kind.0 (codes "dir")) (bytes_eq kind.0 (codes "file")) kind.2
  where
    at : (a b : Bool) → cond a (Some Dir) (cond b (file_in d) None) ≡ Some form → IsLawfulForm form
    at true b h = let is : Dir ≡ form = cc in subst IsLawfulForm is tt
    at false true h = file_lawful d form h
    at false false h = absurd (cc)

pub row_lawful : (d : Data) (row : Path × Form) → row_of_line d ≡ Some row → IsPath row.0 × IsLawfulForm row.1
unfolding row_of_line path_under
row_lawful d row e =
    let path = bound (text_under (codes "path") d >>= path_of) _ row e in
    let form = bound (form_in d) _ row path.2 in
    let text = bound (text_under (codes "path") d) path_of path.0 path.1 in
    let is : (path.0, form.0) ≡ row = cc in
    subst (λ (r : Path × Form). IsPath r.0 × IsLawfulForm r.1) is ((path_of_spelled text.0 path.0 text.2).0, form_lawful d form.0 form.1)

-- ---- the header

pub record HasHeader (head : Namespace × ℕ) : Type 0 where
  pub is_bare : head.0 ≡ bare head.0.issued
  pub well : IsWellFormed head.0

fields_lawful : (v : ℕ) (d : Data) (head : Namespace × ℕ) → fields_in v d ≡ Some head → HasHeader head
unfolding fields_in
fields_lawful v d head e =
    let mark = bound (text_under (codes "image") d) _ head e in
    let txid = bound (number_under (codes "txid") d) _ head mark.2 in
    let block = bound (number_under (codes "last_block") d) _ head txid.2 in
    let stamp = bound (number_under (codes "last_gen") d) _ head block.2 in
    let ids = bound (numbers_at (codes "awaiting") d) _ head stamp.2 in
    let profile = bound (header_profile v d) _ head ids.2 in
    let all = picked (is_header mark.0 block.0 stamp.0 ids.0) (bare (record { last_block = block.0; last_stamp = stamp.0; awaiting = ids.0; profile = profile.0 }), txid.0) head profile.2 in
    let fits = and_true (bytes_eq mark.0 (codes "hdfs-standby") && leb 1073741824 block.0 && leb 1000 stamp.0) (awaiting_fits block.0 ids.0) all.0 in
    let old = and_true (bytes_eq mark.0 (codes "hdfs-standby") && leb 1073741824 block.0) (leb 1000 stamp.0) fits.0 in
    let low = and_true (bytes_eq mark.0 (codes "hdfs-standby")) (leb 1073741824 block.0) old.0 in
    subst HasHeader all.1 (record {
      is_bare = refl;
      well = bare_is_well_formed (record { last_block = block.0; last_stamp = stamp.0; awaiting = ids.0; profile = profile.0 }) (leb-true _ _ low.1) (small_in _ d block.0 block.1) (leb-true _ _ old.1) (small_in _ d stamp.0 stamp.1) fits.1;
    })

-- the txid is a number below 2^63
pub txid_limit : (v : ℕ) (d : Data) (head : Namespace × ℕ) → fields_in v d ≡ Some head → head.1 < 2 ^ 63
unfolding fields_in
txid_limit v d head e =
    let mark = bound (text_under (codes "image") d) _ head e in
    let txid = bound (number_under (codes "txid") d) _ head mark.2 in
    let block = bound (number_under (codes "last_block") d) _ head txid.2 in
    let stamp = bound (number_under (codes "last_gen") d) _ head block.2 in
    let ids = bound (numbers_at (codes "awaiting") d) _ head stamp.2 in
    let profile = bound (header_profile v d) _ head ids.2 in
    let all = picked (is_header mark.0 block.0 stamp.0 ids.0) (bare (record { last_block = block.0; last_stamp = stamp.0; awaiting = ids.0; profile = profile.0 }), txid.0) head profile.2 in
    subst (λ (h : Namespace × ℕ). h.1 < 2 ^ 63) all.1 (small_in _ d txid.0 txid.1)

pub header_lawful : (o : Option Data) (head : Namespace × ℕ) → of_header o ≡ Ok head → HasHeader head
header_lawful None head e = absurd (cc)
header_lawful (Some d) head e = version (number_under (codes "version") d) e
  where
    or_not : (v : ℕ) (o : Option (Namespace × ℕ)) → fields_in v d ≡ o → ok_or o NotHeader ≡ Ok head → HasHeader head
    or_not v None is h = absurd (cc)
    or_not v (Some x) is h = let same : x ≡ head = cc in fields_lawful v d head (is ∙ ap Some same)

    known : (v : ℕ) (b : Bool) → cond b (ok_or (fields_in v d) NotHeader) (Err BadVersion) ≡ Ok head → HasHeader head
    known v true h = or_not v (fields_in v d) refl h
    known v false h = absurd (cc)

    version : (o : Option ℕ) → of_version d o ≡ Ok head → HasHeader head
    version None h = absurd (cc)
    version (Some v) h = known v (eqb v 1 || eqb v 2) h
