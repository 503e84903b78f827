-- A text that is gathered, one piece further.
use Rattle.std.proofs.Common.{◌≡◌, ◌<◌, ◌≤◌, ◌+◌, ℕ, suc, add-one, take, drop, get_or, length, Bool, true, false, List, [], ◌∷◌, ◌++◌, refl, sym, ap, ◌∙◌, subst, append-nil, append_assoc}
use Rattle.std.specs.Prelude.{flat_map}
use Rattle.std.proofs.Math.Seq.{drop-cons}
use Rattle.std.proofs.lemmas.List.{drop_all}
use Rattle.nn_device.specs.Device.{Writer, Took}
use Rattle.nn_device.specs.Page.{Page, TookAllBut, HasGone, HasPut, PutsPiece, PutsAllBut}
use Rattle.nn_device.specs.Parts.{TookPrefix}
use Rattle.nn_device.specs.declared.writer.OutputFault.TheVariants.{WriteFailed}
use Rattle.nn_device.proofs.Parts.{took_both, prefix_after, prefix_of}

-- behind a failed write nothing changes
lost_on : (start now : Writer) (text piece : List ℕ) → TookPrefix start now text WriteFailed → TookPrefix start now (text ++ piece) WriteFailed
lost_on start now text piece h = prefix_of start now now text piece WriteFailed h

-- a piece is gathered
pub gathered_on : (start now : Writer) (text left piece : List ℕ) → TookAllBut start now text left → TookAllBut start now (text ++ piece) (left ++ piece)
gathered_on start now text left piece h = record {
  prefix = h.prefix;
  whole = ap (λ t. t ++ piece) h.whole ∙ append_assoc h.prefix left piece;
  took = h.took;
}

-- what was gathered is written
pub all_written : (start now next : Writer) (text left : List ℕ) → TookAllBut start now text left → Took now next left → TookAllBut start next text []
all_written start now next text left h took = record {
  prefix = h.prefix ++ left;
  whole = h.whole ∙ sym (append-nil (h.prefix ++ left));
  took = took_both start now next h.prefix left h.took took;
}

-- or not
pub not_written : (start now next : Writer) (text left : List ℕ) → TookAllBut start now text left → TookPrefix now next left WriteFailed → TookPrefix start next text WriteFailed
not_written start now next text left h fails =
    subst (λ t. TookPrefix start next t WriteFailed) (sym h.whole) (prefix_after start now next h.prefix left WriteFailed h.took fails)

-- one piece, and then another
pub puts_both : (a b : List ℕ) (p q r : Page) (w x y : Writer) → PutsPiece a p w q x → PutsPiece b q x r y → PutsPiece (a ++ b) p w r y
puts_both a b p q r w x y first later = λ start text h. subst (λ t. HasPut start t r y) (append_assoc text a b) (later start (text ++ a) (first start text h))

pub puts_nothing : (p : Page) (w : Writer) → PutsPiece [] p w p w
puts_nothing p w = λ start text h. subst (λ t. HasPut start t p w) (sym (append-nil text)) h

-- ---- A page that was written.

-- where no write failed before
pub still : (start now : Writer) (text : List ℕ) (p : Page) (left : List ℕ) → p.lost ≡ false → p.left ≡ left → HasPut start text p now → TookAllBut start now text left
still start now text p left well is h = subst (TookAllBut start now text) is (subst (λ b. HasGone b start text p.left now) well h)

-- all that was gathered, and then nothing is left
pub part_written : (p : Page) (left : List ℕ) (now next : Writer) → p.lost ≡ false → p.left ≡ left → Took now next left → PutsPiece [] p now (record { left = []; lost = false }) next
part_written p left now next well is took = λ start text h.
    subst (λ t. TookAllBut start next t []) (sym (append-nil text)) (all_written start now next text left (still start now text p left well is h) took)

pub part_lost : (p : Page) (left : List ℕ) (now next : Writer) → p.lost ≡ false → p.left ≡ left → TookPrefix now next left WriteFailed → PutsPiece [] p now (record { left = []; lost = true }) next
part_lost p left now next well is fails = λ start text h.
    subst (λ t. TookPrefix start next t WriteFailed) (sym (append-nil text)) (not_written start now next text left (still start now text p left well is h) fails)

-- a piece behind it
pub piece_written : (p : Page) (piece : List ℕ) (now next : Writer) → p.lost ≡ false → p.left ≡ [] → Took now next piece → PutsPiece piece p now p next
piece_written p piece now next well none took = λ start text h.
    let k = gathered_on start now text [] piece (still start now text p [] well none h) in
    subst (λ b. HasGone b start (text ++ piece) p.left next) (sym well)
    (subst (TookAllBut start next (text ++ piece)) (sym none) (all_written start now next (text ++ piece) piece k took))

pub piece_lost : (p : Page) (piece : List ℕ) (now next : Writer) → p.lost ≡ false → p.left ≡ [] → TookPrefix now next piece WriteFailed
    → (start : Writer) (text : List ℕ) → HasPut start text p now → TookPrefix start next (text ++ piece) WriteFailed
piece_lost p piece now next well none fails = λ start text h.
    not_written start now next (text ++ piece) piece (gathered_on start now text [] piece (still start now text p [] well none h)) fails

-- a piece behind a failed write
pub piece_dropped : (p : Page) (piece : List ℕ) (now : Writer) → p.lost ≡ true → PutsPiece piece p now p now
piece_dropped p piece now lost = λ start text h.
    subst (λ b. HasGone b start (text ++ piece) p.left now) (sym lost) (lost_on start now text piece (subst (λ b. HasGone b start text p.left now) lost h))

-- ---- A text of many pieces.

pub none_of : (text : List ℕ) (p : Page) (w : Writer) → PutsAllBut text text p w p w
none_of text p w = ([], refl, puts_nothing p w)

pub one_more : (text piece left : List ℕ) (p q r : Page) (w x y : Writer) → PutsAllBut text (piece ++ left) p w q x → PutsPiece piece q x r y → PutsAllBut text left p w r y
one_more text piece left p q r w x y h more = (h.0 ++ piece, h.1 ∙ sym (append_assoc h.0 piece left), puts_both h.0 piece p q r w x y h.2 more)

pub all_of : (text : List ℕ) (p q : Page) (w x : Writer) → PutsAllBut text [] p w q x → PutsPiece text p w q x
all_of text p q w x h = subst (λ t. PutsPiece t p w q x) (sym (h.1 ∙ append-nil h.0)) h.2

-- behind a failed write what is left may be left out
pub rest_dropped : (text left : List ℕ) (p q : Page) (w x : Writer) → q.lost ≡ true → PutsAllBut text left p w q x → PutsPiece text p w q x
rest_dropped text left p q w x lost h = subst (λ t. PutsPiece t p w q x) (sym h.1) (puts_both h.0 left p q q w x x h.2 (piece_dropped q left x lost))

-- the next of pieces that are made of a list
pub next_of : {X : Type 0} (f : X → List ℕ) (xs : List X) (i : ℕ) (d : X) (p q r : Page) (w x y : Writer) → i < length xs
    → PutsAllBut (flat_map f xs) (flat_map f (drop i xs)) p w q x → PutsPiece (f (get_or xs i d)) q x r y → PutsAllBut (flat_map f xs) (flat_map f (drop (i + 1) xs)) p w r y
next_of f xs i d p q r w x y within h more =
    subst (λ k. PutsAllBut (flat_map f xs) (flat_map f (drop k xs)) p w r y) (sym (add-one i))
    (one_more (flat_map f xs) (f (get_or xs i d)) (flat_map f (drop (suc i) xs)) p q r w x y
    (subst (λ l. PutsAllBut (flat_map f xs) (flat_map f l) p w q x) (drop-cons xs i d within) h) more)

-- and the last of them
pub last_of : {X : Type 0} (f : X → List ℕ) (xs : List X) (i : ℕ) (p q : Page) (w x : Writer) → length xs ≤ i
    → PutsAllBut (flat_map f xs) (flat_map f (drop i xs)) p w q x → PutsPiece (flat_map f xs) p w q x
last_of f xs i p q w x past h = all_of (flat_map f xs) p q w x (subst (λ l. PutsAllBut (flat_map f xs) (flat_map f l) p w q x) (drop_all i xs past) h)

-- the first of those that are left
pub next_first : {X : Type 0} (f : X → List ℕ) (text : List ℕ) (first : X) (left more : List X) (p q r : Page) (w x y : Writer) → left ≡ first ∷ more
    → PutsAllBut text (flat_map f left) p w q x → PutsPiece (f first) q x r y → PutsAllBut text (flat_map f more) p w r y
next_first f text first left more p q r w x y is h put =
    one_more text (f first) (flat_map f more) p q r w x y (subst (λ l. PutsAllBut text (flat_map f l) p w q x) is h) put
