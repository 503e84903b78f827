-- The lines of an image in front of an input.
use Rattle.std.proofs.Common.{◌≡◌, ◌⊎◌, inl, inr, ℕ, ◌+◌, ◌<◌, ◌≤◌, ◌^◌, List, [], ◌∷◌, ◌++◌, length, take, Bool, true, false, Option, Some, None, Result, Ok, Err, refl, sym, ap, subst, ◌∙◌, arith, append_assoc, append-nil, length-append}
use Rattle.std.specs.Prelude.{codes, is_some}
use Rattle.std.specs.Io.KnownBytes.{IsAtEnd}
use Rattle.std.proofs.lemmas.List.{length-take}
use Rattle.serde_json.specs.Data.{Data}
use Rattle.serde_json.specs.Find.{get}
use Rattle.nn_bytes.specs.Lines.{line_feed}
use Rattle.nn_device.specs.Device.{Reader}
use Rattle.nn_model.specs.Namespace.{Namespace}
use Rattle.nn_input.specs.Cut.{HasCome, HasEnded, IsFresh, IsTextOf, Lines, NextEnded, ReadOn, ahead, line_blank, line_text}
use Rattle.nn_bytes.specs.Pieces.{is_unbroken, joined_lines}
use Rattle.nn_input.specs.declared.lines.Place.{Place}
use Rattle.nn_input.proofs.Cuts.{come_ahead, come_both, ended_fresh, lines_come, none_came}
use Rattle.nn_bytes.proofs.PieceLemmas.{joined_more}
use Rattle.nn_image.specs.Loading.{Loading, at_header, in_rows, behind_end, refused, ends_with, fault_of_loading, is_first, loaded_from, with_txid, TakesLine}
use Rattle.nn_image.specs.Reading.{all_from, by_key, by_value, has_end, is_end_line, object_of, of_header, pieces_of, read_image, row_of_line, rows_from, with_next_row, ◌then◌}
use Rattle.nn_image.specs.declared.fault.ImageFault.{ImageFault}
use Rattle.nn_image.specs.declared.fault.ImageFault.TheVariants.{Truncated}
use Rattle.nn_image.proofs.LoadedLines.{only_piece}
use Rattle.nn_image.specs.Front.{Cut, FrontEnds, FrontRead, HasFront, divided, from_header, image_cut_from, image_read, max_passed, onto, rest_of}
use Rattle.nn_image.specs.FrontReading.{HasImage, ImageEnds, ImageRead, IsOpen, PassedOver, all_bytes}
use Rattle.nn_image.specs.declared.front.FrontImage.{FrontImage}
use Rattle.nn_image.specs.declared.front.FrontImage.TheVariants.{Missing, Torn, Ended}
use Rattle.nn_image.proofs.FrontCuts.{at_feed, divided_by, none_loaded, one_more, passed_is, same_line}

-- ---- Until the end line has come.

never : {X : Type 0} (e : ImageFault) (x : X) → Err e ≡ Ok x → ⊥
never e x is = absurd (cc)

no_rows : (txid : ℕ) (r : Result Namespace ImageFault) (x : Namespace × ℕ) → with_txid txid (r then (λ m. Err Truncated)) ≡ Ok x → ⊥
no_rows txid (Ok n) x is = never Truncated x is
no_rows txid (Err e) x is = never e x is

-- nothing is loaded of a line that ends no image
not_loaded : (l : Loading) (line : List ℕ) (x : Namespace × ℕ) → IsOpen l → ends_with l line ≡ false → loaded_from l (line ∷ [] ∷ []) ≡ Ok x → ⊥
unfolding all_from rows_from is_end_line
not_loaded (behind_end n txid) line x going not_end is = absurd going
not_loaded (refused e) line x going not_end is = never e x is
not_loaded at_header line x going not_end is = by (of_header (object_of line)) is
  where
    by : (r : Result (Namespace × ℕ) ImageFault) → (r then (λ head. Err Truncated then (λ n. Ok (n, head.1)))) ≡ Ok x → ⊥
    by (Ok head) is = never Truncated x is
    by (Err e) is = never e x is
not_loaded (in_rows n txid) line x going not_end is = by (object_of line) not_end is
  where
    at : (d : Data) (key : Option Data) → is_some key ≡ false → with_txid txid (by_key n d ([] ∷ []) (λ m. Err Truncated) key) ≡ Ok x → ⊥
    at d None none is = no_rows txid (with_next_row n (row_of_line d)) x is
    at d (Some count) none is = absurd (cc)

    by : (o : Option Data) → has_end o ≡ false → with_txid txid (by_value n ([] ∷ []) (λ m. Err Truncated) o) ≡ Ok x → ⊥
    by None none is = absurd (cc)
    by (Some d) none is = at d (get (codes "end") d) none is

pub open_on : (l m : Loading) (line : List ℕ) → TakesLine l m line → ends_with l line ≡ false → IsOpen l → IsOpen m
open_on l at_header line takes not_end going = tt
open_on l (in_rows n txid) line takes not_end going = tt
open_on l (refused e) line takes not_end going = tt
open_on l (behind_end n txid) line takes not_end going = not_loaded l line (n, txid) going not_end (takes [] [])

pub torn_open : (l : Loading) → IsOpen l → fault_of_loading l ≡ None → (torn : List ℕ) → loaded_from l (torn ∷ []) ≡ Err Truncated
unfolding all_from rows_from
torn_open at_header going none torn = refl
torn_open (in_rows n txid) going none torn = refl
torn_open (behind_end n txid) going none torn = absurd going
torn_open (refused e) going none torn = absurd (cc)

-- ---- By the definitions.

line_cut : (header : Bool) (line more : List ℕ) → is_unbroken line ≡ true → image_cut_from header [] ((line ++ line_feed ∷ []) ++ more) ≡ onto line (at_feed header line more)
line_cut header line more whole = ap (image_cut_from header []) (append_assoc line (line_feed ∷ []) more) ∙ same_line header [] line (line_feed ∷ more) whole

torn_cut : (header : Bool) (torn : List ℕ) → is_unbroken torn ≡ true → image_cut_from header [] torn ≡ record { image = torn; rest = [] }
torn_cut header torn whole =
    ap (image_cut_from header []) (sym (append-nil torn)) ∙ same_line header [] torn [] whole ∙ (λ j. record { image = append-nil torn j; rest = [] })

-- ---- A line comes whole.

pub whole_text : (most : ℕ) (line text : List ℕ) (blank : Bool) → 2 ^ 63 ≤ most → IsTextOf most line text blank → length text < 2 ^ 63 → text ≡ line
whole_text most line text blank many h few = by h.is
  where
    by : (text ≡ line) ⊎ ((most ≤ length line) × (text ≡ take most line)) → text ≡ line
    by (inl same) = same
    by (inr cut) = absurd (omega (arith, many, few, cut.0, ap length cut.1, length-take most line))

pub begin_image : (r : Reader) (l : Lines) → IsFresh l → HasImage r r l l at_header
begin_image r l fresh = record {
  bytes = [];
  came = none_came r;
  on = record {
    lines = [];
    come = subst (λ t. HasCome all_bytes t [] l) (sym (append-nil (ahead l))) (come_ahead all_bytes l fresh);
    loaded = none_loaded;
    cut = λ more. refl;
    unended = tt;
  };
}

-- the image so far and a line more
more_image : (lines : List (List ℕ)) (line : List ℕ) (cut : Cut) → onto (joined_lines lines) (onto line (onto (line_feed ∷ []) cut)) ≡ onto (joined_lines (lines ++ line ∷ [])) cut
more_image lines line cut j = record {
  image = (sym (ap (λ t. t ++ cut.image) (joined_more lines line) ∙ append_assoc (joined_lines lines) (line ++ line_feed ∷ []) cut.image ∙ ap (λ t. joined_lines lines ++ t) (append_assoc line (line_feed ∷ []) cut.image))) j;
  rest = cut.rest;
}

module _ (before a b : Reader) (old l mid : Lines) (p : Place) (x y : Loading) (text : List ℕ) (h : HasImage before a old l x) (next : NextEnded all_bytes a b l mid p) (is : text ≡ line_text mid p) (few : length text < 2 ^ 63)
    (takes : TakesLine x y text) where
  ended : HasEnded all_bytes ((ahead old ++ h.bytes) ++ next.bytes) h.on.lines p mid
  ended = next.ended (ahead old ++ h.bytes) h.on.lines h.on.come

  begins_next : IsFresh mid
  begins_next = ended_fresh all_bytes ((ahead old ++ h.bytes) ++ next.bytes) h.on.lines p mid ended

  text_is : text ≡ ended.line
  text_is = is ∙ whole_text all_bytes ended.line (line_text mid p) (line_blank mid p) (omega arith) ended.text (subst (λ t. length t < 2 ^ 63) is few)

  abbrev lines : List (List ℕ)
  lines = h.on.lines ++ ended.line ∷ []

  -- those before it, the line, and what follows
  by_line : (more : List ℕ) → image_cut_from true [] (joined_lines lines ++ more) ≡ onto (joined_lines h.on.lines) (onto ended.line (at_feed (is_first x) ended.line more))
  by_line more =
      ap (λ t. image_cut_from true [] (t ++ more)) (joined_more h.on.lines ended.line)
      ∙ ap (image_cut_from true []) (append_assoc (joined_lines h.on.lines) (ended.line ++ line_feed ∷ []) more)
      ∙ h.on.cut ((ended.line ++ line_feed ∷ []) ++ more)
      ∙ ap (onto (joined_lines h.on.lines)) (line_cut (is_first x) ended.line more ended.unbroken)

  all_loaded : (more : List ℕ) → read_image (joined_lines lines ++ more) ≡ loaded_from y (pieces_of more)
  all_loaded more =
      ap (λ t. read_image (t ++ more)) (joined_more h.on.lines ended.line ∙ sym (append_assoc (joined_lines h.on.lines) ended.line (line_feed ∷ [])))
      ∙ one_more (joined_lines h.on.lines) ended.line x y ended.unbroken (subst (TakesLine x y) text_is takes) h.on.loaded more

  at_end : (t : Bool) → ends_with x text ≡ t → (more : List ℕ)
      → at_feed (is_first x) ended.line more
      ≡ (elim t as (λ _. Cut) [
        | true ↦ record { image = line_feed ∷ []; rest = more }
        | false ↦ onto (line_feed ∷ []) (image_cut_from false [] more)
      ])
  at_end t e more = ap (λ u. elim u as (λ _. Cut) [
    | true ↦ record { image = line_feed ∷ []; rest = more }
    | false ↦ onto (line_feed ∷ []) (image_cut_from false [] more)
  ]) (ap (ends_with x) (sym text_is) ∙ e)

  pub line_loaded : is_first y ≡ false → ends_with x text ≡ false → HasImage before b old mid y
  line_loaded later goes = record {
    bytes = h.bytes ++ next.bytes;
    came = come_both before a b h.bytes next.bytes h.came next.came;
    on = record {
      lines = lines;
      come = subst (λ t. HasCome all_bytes t lines mid) (append_assoc (ahead old) h.bytes next.bytes) ended.come;
      loaded = all_loaded;
      cut = λ more.
          by_line more ∙ ap (λ c. onto (joined_lines h.on.lines) (onto ended.line c)) (at_end false goes more) ∙ more_image h.on.lines ended.line (image_cut_from false [] more)
          ∙ ap (λ t. onto (joined_lines lines) (image_cut_from t [] more)) (sym later);
      unended = open_on x y text takes goes h.on.unended;
    };
  }

  pub image_ended : (new : Lines) (loaded : Result (Namespace × ℕ) ImageFault) → ends_with x text ≡ true → loaded ≡ loaded_from y ([] ∷ []) → IsFresh new → ahead new ≡ ahead mid → ImageRead (Ended loaded) before b old new
  image_ended new loaded ends is_loaded fresh same = record {
    bytes = h.bytes ++ next.bytes;
    came = come_both before a b h.bytes next.bytes h.came next.came;
    ends = record {
      image = joined_lines lines;
      read = ap read_image (sym (append-nil (joined_lines lines))) ∙ all_loaded [] ∙ ap (loaded_from y) (only_piece [] refl) ∙ sym is_loaded;
      cut = parts;
    };
    fresh = fresh;
  }
    where
      bytes : List ℕ
      bytes = ahead old ++ (h.bytes ++ next.bytes)

      all : (more : List ℕ) → bytes ++ more ≡ joined_lines lines ++ (ahead new ++ more)
      all more =
          ap (λ t. t ++ more) (sym (append_assoc (ahead old) h.bytes next.bytes) ∙ lines_come all_bytes ((ahead old ++ h.bytes) ++ next.bytes) lines mid (omega arith) begins_next ended.come)
          ∙ append_assoc (joined_lines lines) (ahead mid) more ∙ ap (λ t. joined_lines lines ++ (t ++ more)) (sym same)

      parts : (more : List ℕ) → image_cut_from true [] (bytes ++ more) ≡ record { image = joined_lines lines; rest = ahead new ++ more }
      parts more =
          ap (image_cut_from true []) (all more) ∙ by_line (ahead new ++ more) ∙ ap (λ c. onto (joined_lines h.on.lines) (onto ended.line c)) (at_end true ends (ahead new ++ more))
          ∙ (λ j. record { image = sym (joined_more h.on.lines ended.line) j; rest = ahead new ++ more })

-- ---- The input ends in it.

pub image_torn : (before a b : Reader) (old l mid new : Lines) (x : Loading) (fault : ImageFault) → HasImage before a old l x → ReadOn all_bytes a b l mid → IsAtEnd b.left → ahead mid ≡ [] → IsFresh new → ahead new ≡ ahead mid
    → ((torn : List ℕ) → loaded_from x (torn ∷ []) ≡ Err fault) → ImageRead (Torn fault) before b old new
image_torn before a b old l mid new x fault h r at_end none fresh same fails = record {
  bytes = h.bytes ++ r.bytes;
  came = come_both before a b h.bytes r.bytes h.came r.came;
  ends = (
    record {
      whole = ap (image_cut_from true []) all ∙ h.on.cut torn ∙ ap (onto (joined_lines h.on.lines)) (torn_cut (is_first x) torn come.unbroken) ∙ (λ j. record { image = sym all j; rest = [] });
      bad = ap read_image all ∙ h.on.loaded torn ∙ ap (loaded_from x) (only_piece torn come.unbroken) ∙ fails torn;
    },
    at_end,
    same ∙ none,
  );
  fresh = fresh;
}
  where
    come : HasCome all_bytes ((ahead old ++ h.bytes) ++ r.bytes) h.on.lines mid
    come = r.goes_on (ahead old ++ h.bytes) h.on.lines h.on.come

    torn : List ℕ
    torn = come.torn

    all : ahead old ++ (h.bytes ++ r.bytes) ≡ joined_lines h.on.lines ++ torn
    all =
        sym (append_assoc (ahead old) h.bytes r.bytes) ∙ come.joined ∙ ap (λ t. joined_lines h.on.lines ++ (torn ++ t)) none ∙ ap (λ t. joined_lines h.on.lines ++ t) (append-nil torn)

-- ---- The whole front.

has_front : (input from : List ℕ) (cut : Cut) (loaded : Result (Namespace × ℕ) ImageFault) → from_header input ≡ Some from → image_cut_from true [] from ≡ cut → read_image cut.image ≡ loaded → length input ≤ max_passed + length from
    → HasFront input (Some loaded) cut.rest
has_front input from cut loaded begins is read fits =
    let parts : divided input ≡ Some cut = divided_by input (Some from) begins ∙ ap Some is in
    record {
      read = ap image_read parts ∙ ap Some read;
      behind = ap rest_of parts;
      passed = omega (arith, passed_is input (Some from) begins, fits);
    }

no_front : (input : List ℕ) → from_header input ≡ None → length input ≤ max_passed → HasFront input None []
no_front input none fits =
    let parts : divided input ≡ None = divided_by input None none in
    record { read = ap image_read parts; behind = ap rest_of parts; passed = omega (arith, passed_is input None none, fits) }

pub front_missing : (before a : Reader) (old mid new : Lines) → PassedOver false before a old mid → IsFresh new → ahead new ≡ ahead mid → FrontRead Missing before a old new
front_missing before a old mid new h fresh same = record {
  bytes = h.bytes;
  came = h.came;
  ends = (no_front (ahead old ++ h.bytes) h.header.0 (omega (arith, h.fits, ap length h.header.2)), h.header.1, same ∙ h.header.2);
  fresh = fresh;
}

module _ (before a b : Reader) (old mid new : Lines) (h : PassedOver true before a old mid) where
  input_is : (bytes more : List ℕ) → (ahead old ++ (h.bytes ++ bytes)) ++ more ≡ (ahead old ++ h.bytes) ++ (bytes ++ more)
  input_is bytes more = ap (λ t. t ++ more) (sym (append_assoc (ahead old) h.bytes bytes)) ∙ append_assoc (ahead old ++ h.bytes) bytes more

  begins : (bytes more : List ℕ) → from_header ((ahead old ++ (h.bytes ++ bytes)) ++ more) ≡ Some ((ahead mid ++ bytes) ++ more)
  begins bytes more = ap from_header (input_is bytes more) ∙ h.header.0 (bytes ++ more) ∙ ap Some (sym (append_assoc (ahead mid) bytes more))

  fits : (bytes more : List ℕ) → length ((ahead old ++ (h.bytes ++ bytes)) ++ more) ≤ max_passed + length ((ahead mid ++ bytes) ++ more)
  fits bytes more =
      omega (arith, ap length (input_is bytes more), length-append (ahead old ++ h.bytes) (bytes ++ more), length-append bytes more, length-append (ahead mid ++ bytes) more, length-append (ahead mid) bytes, h.fits)

  front_ends : (image : FrontImage) (bytes : List ℕ) → ImageEnds image (ahead mid ++ bytes) b new → FrontEnds image (ahead old ++ (h.bytes ++ bytes)) b new
  front_ends Missing bytes is = absurd is
  front_ends (Torn fault) bytes is =
      let input = ahead old ++ (h.bytes ++ bytes) in
      let whole = append-nil input in
      let rest = append-nil (ahead mid ++ bytes) in (
        has_front input (ahead mid ++ bytes) (record { image = ahead mid ++ bytes; rest = [] }) (Err fault) (ap from_header (sym whole) ∙ begins bytes [] ∙ ap Some rest) is.0.whole is.0.bad
            (omega (arith, fits bytes [], ap length whole, ap length rest)),
        is.1,
        is.2,
      )
  front_ends (Ended loaded) bytes is =
      λ more. has_front ((ahead old ++ (h.bytes ++ bytes)) ++ more) ((ahead mid ++ bytes) ++ more) (record { image = is.image; rest = ahead new ++ more }) loaded (begins bytes more) (is.cut more) is.read (fits bytes more)

  pub front_read : (image : FrontImage) → ImageRead image a b mid new → FrontRead image before b old new
  front_read image i = record {
    bytes = h.bytes ++ i.bytes;
    came = come_both before a b h.bytes i.bytes h.came i.came;
    ends = front_ends image i.bytes i.ends;
    fresh = i.fresh;
  }
