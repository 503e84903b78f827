-- What is kept of the object of a line behind the header, and what is made of that: the definitions of `Reading`, over the members that
-- were kept and not over the whole object. No public contract cites these.
use Rattle.std.specs.Prelude.{ℕ, List, [], ◌∷◌, Bool, if◌then◌else◌, Option, Some, None, option_map, codes}
use Rattle.std.specs.Str.{bytes_eq}
use Rattle.serde_json.specs.Data.{Data}
use Rattle.serde_json.specs.Find.{get, as_array, as_bool, as_str}
use Rattle.nn_types.specs.Path.{path_of}
use Rattle.nn_types.specs.declared.block.Block.{Block}
use Rattle.nn_model.specs.declared.form.Form.{Form}
use Rattle.nn_model.specs.declared.form.Form.TheVariants.{Dir, File}
use Rattle.nn_model.specs.Namespace.{Path}
use Rattle.nn_plain.specs.Spelling.{whole_of, whole_at}
use Rattle.nn_tree.specs.Restore.{replication_fits}
use Rattle.nn_plain.specs.Keys.{first_named}
use Rattle.nn_image.specs.Reading.{◌>>=◌, limited, text_under, flag_under, blocks_at, gathered, block_of}
use Rattle.nn_image.specs.declared.row_line.RowLine.{RowLine}
use Rattle.nn_image.specs.declared.row_line.RowLine.TheVariants.{Row, End, Bad}
use Rattle.nn_image.specs.declared.row_members.RowKey.{RowKey}
use Rattle.nn_image.specs.declared.row_members.RowKey.TheVariants as key
use Rattle.nn_image.specs.declared.row_members.RowMembers.{RowMembers}

-- ---- what is kept

pub record RowParts : Type 0 where
  pub path : Option (List ℕ)
  pub kind : Option (List ℕ)
  pub blocks : Option (List Block)
  pub closed : Option Bool
  pub replication : Option ℕ
  pub end : Option (Option ℕ)  -- the number of the end line, where it is one

-- of a value
abbrev pub parts_of : Data → RowParts
parts_of d = record {
  path = text_under (codes "path") d;
  kind = text_under (codes "type") d;
  blocks = blocks_at (codes "blocks") d;
  closed = flag_under (codes "closed") d;
  replication = whole_at (codes "replication") d;
  end = option_map whole_of (get (codes "end") d);
}

-- by the code
abbrev pub seen_parts : RowMembers → RowParts
seen_parts r = record {
  path = option_map (λ s. s.now) r.path;
  kind = option_map (λ s. s.now) r.kind;
  blocks = r.blocks;
  closed = r.closed;
  replication = r.replication;
  end = r.end;
}

-- ---- keys

abbrev pub key_text : RowKey → List ℕ
key_text key.Path = codes "path"
key_text key.Kind = codes "type"
key_text key.Blocks = codes "blocks"
key_text key.Closed = codes "closed"
key_text key.Replication = codes "replication"
key_text key.End = codes "end"

abbrev pub all_keys : List RowKey
all_keys = key.Path ∷ key.Kind ∷ key.Blocks ∷ key.Closed ∷ key.Replication ∷ key.End ∷ []

unfoldable pub row_key : List ℕ → Option RowKey
row_key name = first_named key_text name all_keys

-- puts a value: of members with the same key the last one counts
abbrev pub put_at : RowKey → Data → RowParts → RowParts
put_at key.Path d p = record p { path = as_str d }
put_at key.Kind d p = record p { kind = as_str d }
put_at key.Blocks d p = record p { blocks = as_array d >>= gathered block_of }
put_at key.Closed d p = record p { closed = as_bool d }
put_at key.Replication d p = record p { replication = whole_of d }
put_at key.End d p = record p { end = Some (whole_of d) }

-- ---- rows

unfoldable pub file_from : RowParts → Option Form
file_from p = do
  blocks ← p.blocks
  closed ← p.closed
  replication ← p.replication
  (if replication_fits replication then Some (File (record { replication = replication; closed = closed; blocks = blocks })) else None)

unfoldable pub form_from : RowParts → Option Form
form_from p = p.kind >>= λ kind. if bytes_eq kind (codes "dir") then Some Dir else if bytes_eq kind (codes "file") then file_from p else None

unfoldable pub row_from : RowParts → Option (Path × Form)
row_from p = do
  text ← p.path
  path ← path_of text
  form ← form_from p
  Some (path, form)

abbrev pub row_or_bad : Option (Path × Form) → RowLine
row_or_bad None = Bad
row_or_bad (Some row) = Row row.0 row.1

abbrev pub line_by : Option (Option ℕ) → RowParts → RowLine
line_by None p = row_or_bad (row_from p)
line_by (Some count) p = End (limited count)

-- the end line, a row, or neither
abbrev pub line_from : RowParts → RowLine
line_from p = line_by p.end p
