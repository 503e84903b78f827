-- An image on a page, one piece further.
use Rattle.std.proofs.Common.{◌≡◌, ◌<◌, ◌≤◌, ◌+◌, ℕ, suc, add-one, drop, get_or, length, true, List, [], ◌∷◌, ◌++◌, codes, refl, sym, ap, subst, drop-cons, arith, length-append}
use Rattle.std.proofs.lemmas.List.{drop_all}
use Rattle.std.proofs.KnownBytes.{Appends-nil}
use Rattle.serde_json.specs.Written.{compact_text, items_text}
use Rattle.nn_bytes.specs.Lines.{line_feed}
use Rattle.nn_types.specs.declared.block.Block.{Block}
use Rattle.nn_model.specs.declared.form.Form.{Form}
use Rattle.nn_model.specs.Namespace.{Path, Namespace}
use Rattle.nn_device.specs.Device.{Writer}
use Rattle.nn_device.specs.Page.{Page, HasPut, PutsPiece, PutsAllBut}
use Rattle.nn_device.specs.Parts.{TookPrefix}
use Rattle.nn_device.specs.declared.writer.OutputFault.TheVariants.{OutOfMemory}
use Rattle.nn_device.proofs.Pages.{one_more, all_of}
use Rattle.nn_tree.specs.Rows.{greatest_depth}
use Rattle.nn_image.specs.Text.{block_value, block_items, header_data, body_text, image_text, value_line}

module _ (text : List ℕ) (p q r : Page) (w x y : Writer) where
  -- a comma and the next of the blocks
  pub next_block : (bs : List Block) (i : ℕ) (d : Block) → i < length bs → PutsAllBut text (items_text true (block_items (drop i bs))) p w q x
      → PutsPiece (codes "," ++ compact_text (block_value (get_or bs i d))) q x r y → PutsAllBut text (items_text true (block_items (drop (i + 1) bs))) p w r y
  next_block bs i d within h more =
      subst (λ k. PutsAllBut text (items_text true (block_items (drop k bs))) p w r y) (sym (add-one i))
      (one_more text (codes "," ++ compact_text (block_value (get_or bs i d))) (items_text true (block_items (drop (suc i) bs))) p q r w x y
      (subst (λ l. PutsAllBut text (items_text true (block_items l)) p w q x) (drop-cons bs i d within) h) more)

  -- and the bracket after the last of them
  pub last_bracket : (bs : List Block) (i : ℕ) → length bs ≤ i → PutsAllBut text (items_text true (block_items (drop i bs))) p w q x
      → PutsPiece (codes "]") q x r y → PutsPiece text p w r y
  last_bracket bs i past h more =
      all_of text p r w y (one_more text (codes "]") [] p q r w x y (subst (λ l. PutsAllBut text (items_text true (block_items l)) p w q x) (drop_all i bs past) h) more)

-- a text that was put on a new page
pub all_put : (start now : Writer) (page page' : Page) (put text : List ℕ) → put ≡ text → ((s : Writer) → HasPut s [] page s)
    → PutsPiece put page start page' now → HasPut start text page' now
all_put start now page page' put text is new puts = subst (λ t. HasPut start t page' now) is (puts start [] (new start))

-- the walk has its room at the next row
pub room_left : (row : Path × Form) (rows more : List (Path × Form)) (room room' : ℕ) → rows ≡ row ∷ more → greatest_depth rows ≤ room → room ≤ room' → greatest_depth more ≤ room'
room_left row rows more room room' is h grows = omega (arith, ap greatest_depth is, h, grows)

-- of an image nothing is no whole
pub nothing_taken : (w : Writer) (n : Namespace) (txid : ℕ) → TookPrefix w w (image_text n txid) OutOfMemory
unfolding image_text
nothing_taken w n txid = record {
  prefix = [];
  rest = image_text n txid;
  whole = refl;
  short = omega (arith, length-append (value_line (header_data n txid)) (body_text n), length-append (compact_text (header_data n txid)) (line_feed ∷ []));
  bytes = Appends-nil w.contents;
  counted = omega arith;
  caused = refl;
}
