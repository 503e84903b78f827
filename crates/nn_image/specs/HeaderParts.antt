-- What is kept of the object of a header, and what is made of that: the definitions of `Reading`, over the members that were
-- kept and not over the whole object. No public contract cites these.
use Rattle.std.specs.Prelude.{ℕ, ◌==◌, ◌||◌, List, [], ◌∷◌, if◌then◌else◌, Option, Some, None, option_map, Result, Err, codes}
use Rattle.std.specs.Option.{ok_or}
use Rattle.serde_json.specs.Data.{Data}
use Rattle.serde_json.specs.Find.{get, as_str}
use Rattle.nn_types.specs.Profile.{profile_of}
use Rattle.nn_types.specs.declared.profile.Profile.{Profile}
use Rattle.nn_types.specs.declared.profile.Profile.TheVariants.{One}
use Rattle.nn_model.specs.Namespace.{Namespace}
use Rattle.nn_tree.specs.Restore.{bare}
use Rattle.nn_image.specs.Arrays.{ids_in}
use Rattle.nn_plain.specs.Keys.{first_named}
use Rattle.nn_plain.specs.Spelling.{whole_at, whole_of}
use Rattle.nn_image.specs.Reading.{◌>>=◌, is_header, limited, text_under}
use Rattle.nn_image.specs.declared.fault.ImageFault.{ImageFault}
use Rattle.nn_image.specs.declared.fault.ImageFault.TheVariants.{NotHeader, BadVersion}
use Rattle.nn_image.specs.declared.header.HeaderKey.{HeaderKey}
use Rattle.nn_image.specs.declared.header.HeaderKey.TheVariants as key
use Rattle.nn_image.specs.declared.header.HeaderMembers.{HeaderMembers}

pub record HeaderParts : Type 0 where
  pub image : Option (List ℕ)
  pub version : Option ℕ
  pub txid : Option ℕ
  pub last_block : Option ℕ
  pub last_stamp : Option ℕ
  pub awaiting : Option (List ℕ)
  pub profile : Option ℕ

-- of a value
abbrev pub parts_of : Data → HeaderParts
parts_of d = record {
  image = text_under (codes "image") d;
  version = whole_at (codes "version") d;
  txid = whole_at (codes "txid") d;
  last_block = whole_at (codes "last_block") d;
  last_stamp = whole_at (codes "last_gen") d;
  awaiting = get (codes "awaiting") d >>= ids_in;
  profile = whole_at (codes "profile") d;
}

-- by the code
abbrev pub seen_parts : HeaderMembers → HeaderParts
seen_parts h = record {
  image = option_map (λ s. s.now) h.image;
  version = h.version;
  txid = h.txid;
  last_block = h.last_block;
  last_stamp = h.last_stamp;
  awaiting = option_map (λ v. v.items) h.awaiting;
  profile = h.profile;
}

-- ---- keys

abbrev pub key_text : HeaderKey → List ℕ
key_text key.Image = codes "image"
key_text key.Version = codes "version"
key_text key.Txid = codes "txid"
key_text key.LastBlock = codes "last_block"
key_text key.LastStamp = codes "last_gen"
key_text key.Awaiting = codes "awaiting"
key_text key.Profile = codes "profile"

abbrev pub all_keys : List HeaderKey
all_keys = key.Image ∷ key.Version ∷ key.Txid ∷ key.LastBlock ∷ key.LastStamp ∷ key.Awaiting ∷ key.Profile ∷ []

unfoldable pub header_key : List ℕ → Option HeaderKey
header_key name = first_named key_text name all_keys

-- puts a value: of members with the same key the last one counts
abbrev pub put_at : HeaderKey → Data → HeaderParts → HeaderParts
put_at key.Image d p = record p { image = as_str d }
put_at key.Version d p = record p { version = whole_of d }
put_at key.Txid d p = record p { txid = whole_of d }
put_at key.LastBlock d p = record p { last_block = whole_of d }
put_at key.LastStamp d p = record p { last_stamp = whole_of d }
put_at key.Awaiting d p = record p { awaiting = ids_in d }
put_at key.Profile d p = record p { profile = whole_of d }

-- ---- what it says

unfoldable pub profile_from : ℕ → Option ℕ → Option Profile
profile_from version profile = if version == 1 then Some One else limited profile >>= profile_of

unfoldable pub fields_from : ℕ → HeaderParts → Option (Namespace × ℕ)
fields_from version p = do
  mark ← p.image
  txid ← limited p.txid
  last_block ← limited p.last_block
  last_stamp ← limited p.last_stamp
  ids ← p.awaiting
  profile ← profile_from version p.profile
  (if is_header mark last_block last_stamp ids then Some (bare (record { last_block = last_block; last_stamp = last_stamp; awaiting = ids; profile = profile }), txid) else None)

abbrev pub by_version : HeaderParts → Option ℕ → Result (Namespace × ℕ) ImageFault
by_version p None = Err NotHeader
by_version p (Some version) = if (version == 1) || (version == 2) then ok_or (fields_from version p) NotHeader else Err BadVersion

abbrev pub of_parts : HeaderParts → Result (Namespace × ℕ) ImageFault
of_parts p = by_version p (limited p.version)
