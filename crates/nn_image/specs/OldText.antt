-- The text of an image of version 1, which is read, and not written any more: its header has no profile.
use Rattle.std.specs.Prelude.{ℕ, ◌-◌, ◌++◌, List, drop, length, codes}
use Rattle.serde_json.specs.Data.{Data, number, unsigned, string, array, object, member, no_members}
use Rattle.nn_model.specs.Namespace.{Namespace}
use Rattle.nn_image.specs.Text.{number_items, value_line, row_lines, end_data}

unfoldable pub old_header_data : Namespace → ℕ → Data
old_header_data n txid =
    object (member (codes "awaiting") (array (number_items n.issued.awaiting))
    (member (codes "image") (string (codes "hdfs-standby"))
    (member (codes "last_block") (number (unsigned n.issued.last_block))
    (member (codes "last_gen") (number (unsigned n.issued.last_stamp))
    (member (codes "txid") (number (unsigned txid))
    (member (codes "version") (number (unsigned 1)) no_members))))))

-- the other lines are those of version 2
unfoldable pub old_image_text : Namespace → ℕ → List ℕ
old_image_text n txid = value_line (old_header_data n txid) ++ (row_lines (drop 1 n.rows) ++ value_line (end_data (length n.rows - 1)))
