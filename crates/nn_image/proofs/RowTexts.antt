-- The line of a path, and the object of a block, as their parts.
use Rattle.std.proofs.Common.{◌≡◌, List, [], ◌∷◌, ◌++◌, ℕ, codes, refl, sym, ap, ◌∙◌, append_assoc}
use Rattle.std.specs.Prelude.{false, decimal}
use Rattle.json.specs.Print.{escape_byte}
use Rattle.serde_json.specs.Data.{boolean, string}
use Rattle.serde_json.specs.Written.{compact_text, items_text}
use Rattle.nn_bytes.specs.Lines.{line_feed}
use Rattle.nn_types.specs.Path.{path_text}
use Rattle.nn_types.specs.declared.block.Block.{Block}
use Rattle.nn_model.specs.declared.form.FileRow.{FileRow}
use Rattle.nn_model.specs.declared.form.Form.TheVariants.{Dir, File}
use Rattle.nn_model.specs.Namespace.{Path}
use Rattle.nn_image.specs.Text.{value_line, block_value, block_items, form_data, end_data}

-- the parts in a row, the first of them alone
abbrev pub in_a_row : List ℕ → List (List ℕ) → List ℕ
in_a_row part [] = part
in_a_row part (next ∷ parts) = part ++ in_a_row next parts

ended : (part : List ℕ) (parts : List (List ℕ)) (end : List ℕ) → in_a_row part parts ++ end ≡ in_a_row part (parts ++ end ∷ [])
ended part [] end = refl
ended part (next ∷ parts) end = append_assoc part (in_a_row next parts) end ∙ ap (λ t. part ++ t) (ended next parts end)

-- the object of a block
pub block_parts : (b : Block)
    → in_a_row (codes "{\"gen\":") (decimal b.stamp ∷ codes ",\"id\":" ∷ decimal b.id ∷ codes ",\"len\":" ∷ decimal b.len ∷ codes "}" ∷ []) ≡ compact_text (block_value b)
unfolding escape_byte
block_parts b = refl

-- the line of a directory
pub dir_parts : (p : Path) → in_a_row (codes "{\"path\":") (compact_text (string (path_text p)) ∷ codes ",\"type\":\"dir\"}\n" ∷ []) ≡ value_line (form_data p Dir)
unfolding form_data escape_byte
dir_parts p = sym (ended (codes "{\"path\":") (compact_text (string (path_text p)) ∷ codes ",\"type\":\"dir\"}" ∷ []) (line_feed ∷ []))

-- the line of a file
pub file_parts : (p : Path) (file : FileRow)
    → in_a_row (codes "{\"blocks\":[") (items_text false (block_items file.blocks) ∷ codes ",\"closed\":" ∷ compact_text (boolean file.closed)
    ∷ codes ",\"path\":" ∷ compact_text (string (path_text p)) ∷ codes ",\"replication\":" ∷ decimal file.replication ∷ codes ",\"type\":\"file\"}\n" ∷ [])
    ≡ value_line (form_data p (File file))
unfolding form_data escape_byte
file_parts p file =
    sym (ended (codes "{\"blocks\":[") (items_text false (block_items file.blocks) ∷ codes ",\"closed\":" ∷ compact_text (boolean file.closed)
    ∷ codes ",\"path\":" ∷ compact_text (string (path_text p)) ∷ codes ",\"replication\":" ∷ decimal file.replication ∷ codes ",\"type\":\"file\"}" ∷ []) (line_feed ∷ []))

-- the line of the number of paths
pub end_parts : (paths : ℕ) → in_a_row (codes "{\"end\":") (decimal paths ∷ codes "}\n" ∷ []) ≡ value_line (end_data paths)
unfolding end_data escape_byte
end_parts paths = sym (ended (codes "{\"end\":") (decimal paths ∷ codes "}" ∷ []) (line_feed ∷ []))
