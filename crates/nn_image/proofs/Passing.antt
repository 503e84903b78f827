-- The lines before an image, which are passed over.
use Rattle.std.proofs.Common.{◌≡◌, ◌⊎◌, inl, inr, ℕ, ◌+◌, ◌<◌, ◌≤◌, ◌^◌, List, [], ◌∷◌, ◌++◌, length, take, Bool, true, false, not, cond, eqb, Option, Some, None, refl, sym, ap, subst, ◌∙◌, arith, append_assoc, append-nil, length-append}
use Rattle.std.specs.List.{list_all}
use Rattle.std.specs.Str.{bytes_eq}
use Rattle.std.specs.Io.KnownBytes.{IsAtEnd}
use Rattle.std.proofs.lemmas.Bool.{and_from, and_parts, not-true}
use Rattle.std.proofs.lemmas.Bool.Decides.{Decides-eqb}
use Rattle.std.proofs.lemmas.List.Folds.{list_all-append}
use Rattle.std.proofs.lemmas.Slice.Eq.{bytes_eq-Decides}
use Rattle.nn_bytes.specs.Lines.{line_feed}
use Rattle.nn_device.specs.Device.{Reader}
use Rattle.nn_input.specs.Cut.{HasCome, HasEnded, IsFresh, IsTextOf, Lines, ReadOn, Refilled, ahead, line_blank, line_text}
use Rattle.nn_bytes.specs.Pieces.{is_unbroken, joined_lines}
use Rattle.nn_input.specs.declared.lines.Place.{Place}
use Rattle.nn_input.proofs.Cuts.{come_ahead, come_both, comes_ahead, ended_fresh, lines_come, none_came}
use Rattle.nn_bytes.proofs.PieceLemmas.{joined_more}
use Rattle.nn_image.specs.Front.{TooMuchCame, WhyNoFront, behind_mark, from_header, mark, max_passed, passed_over}
use Rattle.nn_image.specs.FrontReading.{HasPassed, IsAtMark, IsHeaderAhead, IsNoObject, IsPassing, IsTooMuchCut, PassedOver, has_no_mark}
use Rattle.nn_input.specs.declared.fault.InputFault.{InputFault}
use Rattle.nn_input.specs.declared.fault.InputFault.TheVariants.{ReadFailed, TooLong, OutOfMemory}
use Rattle.nn_image.proofs.FrontCuts.{passed_is, passes, same_mark}

-- ---- By the definitions.

-- a line that is not the mark is passed over
other_line : (line more : List ℕ) → is_unbroken line ≡ true → bytes_eq line mark ≡ false → behind_mark [] ((line ++ line_feed ∷ []) ++ more) ≡ behind_mark [] more
other_line line more whole other =
    ap (behind_mark []) (append_assoc line (line_feed ∷ []) more) ∙ passes [] line (line_feed ∷ more) whole
    ∙ ap (λ t. elim t as (λ _. Option (List ℕ)) [
      | true ↦ Some more
      | false ↦ behind_mark [] more
    ]) other

other_lines : (passed : List (List ℕ)) (more : List ℕ) → list_all is_unbroken passed ≡ true → has_no_mark passed ≡ true → behind_mark [] (joined_lines passed ++ more) ≡ behind_mark [] more
other_lines [] more whole none = refl
other_lines (line ∷ passed) more whole none =
    let each = and_parts (is_unbroken line) (list_all is_unbroken passed) whole in
    let both = and_parts (not (bytes_eq line mark)) (has_no_mark passed) none in
    ap (behind_mark []) (append_assoc (line ++ line_feed ∷ []) (joined_lines passed) more)
    ∙ other_line line (joined_lines passed ++ more) each.0 (not-true (bytes_eq line mark) both.0)
    ∙ other_lines passed more each.1 both.1

at_once : (more : List ℕ) → behind_mark [] ((mark ++ line_feed ∷ []) ++ more) ≡ Some more
at_once more = refl

-- behind the first line that is the mark an image begins
pub mark_divides : (passed : List (List ℕ)) (more : List ℕ) → list_all is_unbroken passed ≡ true → has_no_mark passed ≡ true → behind_mark [] (joined_lines (passed ++ mark ∷ []) ++ more) ≡ Some more
mark_divides passed more whole none =
    ap (λ t. behind_mark [] (t ++ more)) (joined_more passed mark) ∙ ap (behind_mark []) (append_assoc (joined_lines passed) (mark ++ line_feed ∷ []) more)
    ∙ other_lines passed ((mark ++ line_feed ∷ []) ++ more) whole none ∙ at_once more

-- and none does where no line is
pub no_mark_divides : (passed : List (List ℕ)) (torn : List ℕ) → list_all is_unbroken passed ≡ true → has_no_mark passed ≡ true → is_unbroken torn ≡ true → behind_mark [] (joined_lines passed ++ torn) ≡ None
no_mark_divides passed torn whole none unbroken = other_lines passed torn whole none ∙ ap (behind_mark []) (sym (append-nil torn)) ∙ passes [] torn [] unbroken

-- ---- Where no object begins the input.

no_object : (bytes more : List ℕ) → IsNoObject bytes → from_header (bytes ++ more) ≡ behind_mark [] (bytes ++ more)
no_object [] more h = absurd (omega (arith, h.0))
no_object (b ∷ bytes) more h = ap (λ t. cond t (Some (b ∷ bytes ++ more)) (behind_mark [] (b ∷ bytes ++ more))) h.1

still_none : (bytes more : List ℕ) → IsNoObject bytes → IsNoObject (bytes ++ more)
still_none [] more h = absurd (omega (arith, h.0))
still_none (b ∷ bytes) more h = (omega arith, h.1)

pub other_first : (bytes rest : List ℕ) (b : ℕ) → bytes ≡ b ∷ rest → (b ≡ 123 → ⊥) → IsNoObject bytes
other_first bytes rest b is other = subst IsNoObject (sym is) (omega arith, not_it (eqb b 123) refl)
  where
    not_it : (t : Bool) → eqb b 123 ≡ t → t ≡ false
    not_it true e = absurd (other ((Decides-eqb b 123).0 e))
    not_it false e = refl

-- an image begins behind the mark
at_mark : (bytes : List ℕ) (l : Lines) → IsNoObject bytes → IsAtMark bytes l → (more : List ℕ) → from_header (bytes ++ more) ≡ Some (ahead l ++ more)
at_mark bytes l other h more =
    let whole = and_parts (list_all is_unbroken h.passed) (list_all is_unbroken (mark ∷ [])) (sym (list_all-append is_unbroken h.passed (mark ∷ [])) ∙ h.come.each) in
    no_object bytes more other
    ∙ ap (λ t. behind_mark [] (t ++ more)) (lines_come 6 bytes (h.passed ++ mark ∷ []) l (omega arith) h.fresh h.come)
    ∙ ap (behind_mark []) (append_assoc (joined_lines (h.passed ++ mark ∷ [])) (ahead l) more)
    ∙ mark_divides h.passed (ahead l ++ more) whole.0 h.none

-- none does in what came, where all is cut and no line is the mark
none_yet : (bytes : List ℕ) (l : Lines) → IsNoObject bytes → ahead l ≡ [] → IsPassing bytes l → from_header bytes ≡ None
none_yet bytes l other none h =
    let torn = h.come.torn in
    let all : bytes ≡ joined_lines h.passed ++ torn = h.come.joined ∙ ap (λ a. joined_lines h.passed ++ (torn ++ a)) none ∙ ap (λ t. joined_lines h.passed ++ t) (append-nil torn) in
    ap from_header (sym (append-nil bytes)) ∙ no_object bytes [] other ∙ ap (behind_mark []) (append-nil bytes ∙ all)
    ∙ no_mark_divides h.passed torn h.come.each h.none h.come.unbroken

-- ---- A line is cut.

-- what is kept of it tells whether it is the mark
told : (line text : List ℕ) (blank : Bool) → IsTextOf 6 line text blank → bytes_eq text mark ≡ bytes_eq line mark
told line text blank h = by h.is
  where
    by : (text ≡ line) ⊎ ((6 ≤ length line) × (text ≡ take 6 line)) → bytes_eq text mark ≡ bytes_eq line mark
    by (inl same) = ap (λ t. bytes_eq t mark) same
    by (inr cut) = ap (λ t. bytes_eq t mark) cut.1 ∙ same_mark line

module _ (old l new : Lines) (p : Place) (text : List ℕ) (so_far : (bytes : List ℕ) → IsPassing bytes old → IsPassing bytes l)
    (ends : (bytes : List ℕ) (lines : List (List ℕ)) → HasCome 6 bytes lines l → HasEnded 6 bytes lines p new) (is : text ≡ line_text new p) where
  line_told : (bytes : List ℕ) (lines : List (List ℕ)) (e : HasEnded 6 bytes lines p new) → bytes_eq e.line mark ≡ bytes_eq text mark
  line_told bytes lines e = sym (told e.line (line_text new p) (line_blank new p) e.text) ∙ ap (λ t. bytes_eq t mark) (sym is)

  pub line_passed : bytes_eq text mark ≡ false → (bytes : List ℕ) → IsPassing bytes old → IsPassing bytes new
  line_passed other bytes h =
      let k = so_far bytes h in
      let e = ends bytes k.passed k.come in
      record {
        passed = k.passed ++ e.line ∷ [];
        come = e.come;
        none = list_all-append (λ line. not (bytes_eq line mark)) k.passed (e.line ∷ []) ∙ and_from _ _ k.none (and_from _ _ (ap not (line_told bytes k.passed e ∙ other)) refl);
      }

  pub mark_ends : bytes_eq text mark ≡ true → (bytes : List ℕ) → IsPassing bytes old → IsAtMark bytes new
  mark_ends same bytes h =
      let k = so_far bytes h in
      let e = ends bytes k.passed k.come in
      let line : e.line ≡ mark = (bytes_eq-Decides e.line mark).0 (line_told bytes k.passed e ∙ same) in
      record { passed = k.passed; come = subst (λ t. HasCome 6 bytes (k.passed ++ t ∷ []) new) line e.come; none = k.none; fresh = ended_fresh 6 bytes k.passed p new e }

-- ---- Lines are passed over.

pub begin_passing : (r : Reader) (l : Lines) → IsFresh l → HasPassed r r l l
begin_passing r l fresh = record {
  bytes = [];
  came = none_came r;
  passing = record { passed = []; come = subst (λ t. HasCome 6 t [] l) (sym (append-nil (ahead l))) (come_ahead 6 l fresh); none = refl };
}

pub more_passed : (before a b : Reader) (old l mid new : Lines) → HasPassed before a old l → ((bytes : List ℕ) → IsPassing bytes l → IsPassing bytes mid) → ahead mid ≡ [] → Refilled a b mid new
    → HasPassed before b old new
more_passed before a b old l mid new h goes none r =
    let k = goes (ahead old ++ h.bytes) h.passing in
    record {
      bytes = h.bytes ++ r.bytes;
      came = come_both before a b h.bytes r.bytes h.came r.came;
      passing = record {
        passed = k.passed;
        come = subst (λ t. HasCome 6 t k.passed new) (append_assoc (ahead old) h.bytes r.bytes) (comes_ahead 6 (ahead old ++ h.bytes) r.bytes k.passed mid new none r.are r.torn k.come);
        none = k.none;
      };
    }

module _ (before a : Reader) (old l mid : Lines) (other : IsNoObject (ahead old)) (h : HasPassed before a old l) where
  pub too_much : (found : Bool) → (found ≡ true → (bytes : List ℕ) → IsPassing bytes l → IsAtMark bytes mid)
      → (found ≡ false → ((bytes : List ℕ) → IsPassing bytes l → IsPassing bytes mid) × (ahead mid ≡ []))
      → IsTooMuchCut before a (length (ahead old)) (length (ahead mid)) → a.given + length (ahead old) ≤ before.given + (max_passed + 2 ^ 16) → TooMuchCame before a old
  too_much found mark none much soon = record {
    bytes = h.bytes;
    came = h.came;
    much = by found refl;
    soon = omega (arith, size, h.came.counted, soon);
  }
    where
      all : List ℕ
      all = ahead old ++ h.bytes

      size : length all ≡ length (ahead old) + length h.bytes
      size = length-append (ahead old) h.bytes

      by : (t : Bool) → found ≡ t → max_passed < passed_over all
      by true e =
          let from : from_header all ≡ Some (ahead mid) = ap from_header (sym (append-nil all)) ∙ at_mark all mid (still_none (ahead old) h.bytes other) (mark e all h.passing) [] ∙ ap Some (append-nil (ahead mid)) in
          omega (arith, passed_is all (Some (ahead mid)) from, size, h.came.counted, much)
      by false e =
          let k = none e in
          omega (arith, passed_is all None (none_yet all mid (still_none (ahead old) h.bytes other) k.1 (k.0 all h.passing)), size, h.came.counted, much, ap length k.1)

  module _ (fits : IsTooMuchCut before a (length (ahead old)) (length (ahead mid)) → ⊥) where
    pub mark_passed : ((bytes : List ℕ) → IsPassing bytes l → IsAtMark bytes mid) → PassedOver true before a old mid
    mark_passed mark =
        let at = mark (ahead old ++ h.bytes) h.passing in
        record {
          bytes = h.bytes;
          came = h.came;
          header = (at_mark (ahead old ++ h.bytes) mid (still_none (ahead old) h.bytes other) at, at.fresh);
          fits = omega (arith, length-append (ahead old) h.bytes, h.came.counted, fits);
        }

    pub none_passed : (b : Reader) (new : Lines) → ((bytes : List ℕ) → IsPassing bytes l → IsPassing bytes mid) → ahead mid ≡ [] → Refilled a b mid new → ahead new ≡ [] → IsAtEnd b.left → PassedOver false before b old new
    none_passed b new goes none r still at_end =
        let k = more_passed before a b old l mid new h goes none r in
        record {
          bytes = k.bytes;
          came = k.came;
          header = (none_yet (ahead old ++ k.bytes) new (still_none (ahead old) k.bytes other) still k.passing, at_end, still);
          fits = omega (arith, length-append (ahead old) k.bytes, length-append h.bytes r.bytes, h.came.counted, fits, ap length none, ap length still, ap length r.are);
        }

-- ---- The first byte is seen.

module _ (before a : Reader) (old mid : Lines) (fresh : IsFresh old) (r : ReadOn 6 before a old mid) (same : mid.torn ≡ old.torn) where
  seen : ahead old ++ r.bytes ≡ ahead mid
  seen = lines_come 6 (ahead old ++ r.bytes) [] mid (omega arith) (same ∙ fresh) (r.goes_on (ahead old) [] (come_ahead 6 old fresh))

  pub nothing_came : ahead mid ≡ [] → IsAtEnd a.left → PassedOver false before a old mid
  nothing_came none at_end = record {
    bytes = r.bytes;
    came = r.came;
    header = (ap from_header (seen ∙ none), at_end, none);
    fits = omega (arith, ap length seen);
  }

  pub object_came : (b : ℕ) → b ≡ 123 → (rest : List ℕ) × (ahead mid ≡ b ∷ rest) → PassedOver true before a old mid
  object_came b is (rest, there) =
      let begins : ahead mid ≡ 123 ∷ rest = there ∙ ap (λ x. x ∷ rest) is in
      record {
        bytes = r.bytes;
        came = r.came;
        header = (λ more. ap (λ t. from_header (t ++ more)) (seen ∙ begins) ∙ ap (λ t. Some (t ++ more)) (sym begins), same ∙ fresh);
        fits = omega (arith, ap length seen);
      }

  onto_seen : (bytes : List ℕ) → ahead old ++ (r.bytes ++ bytes) ≡ ahead mid ++ bytes
  onto_seen bytes = sym (append_assoc (ahead old) r.bytes bytes) ∙ ap (λ t. t ++ bytes) seen

  pub passed_on : (found : Bool) (b : Reader) (new : Lines) → PassedOver found a b mid new → PassedOver found before b old new
  passed_on found b new h = record {
    bytes = r.bytes ++ h.bytes;
    came = come_both before a b r.bytes h.bytes r.came h.came;
    header = subst (λ t. IsHeaderAhead found t b new) (sym (onto_seen h.bytes)) h.header;
    fits = subst (λ t. length t ≤ max_passed + length (ahead new)) (sym (onto_seen h.bytes)) h.fits;
  }

  pub soon_on : (b : Reader) → b.given + length (ahead mid) ≤ a.given + (max_passed + 2 ^ 16) → b.given ≤ before.given + (max_passed + 2 ^ 16)
  soon_on b soon = omega (arith, soon, ap length seen, length-append (ahead old) r.bytes, r.came.counted)

  pub why_on : (fault : InputFault) (b : Reader) → WhyNoFront fault a b mid → WhyNoFront fault before b old
  why_on ReadFailed b h = h
  why_on OutOfMemory b h = h ∙ r.came.unfailed
  why_on TooLong b h = record {
    bytes = r.bytes ++ h.bytes;
    came = come_both before a b r.bytes h.bytes r.came h.came;
    much = subst (λ t. max_passed < passed_over t) (sym (onto_seen h.bytes)) h.much;
    soon = subst (λ t. length t ≤ max_passed + 2 ^ 16) (sym (onto_seen h.bytes)) h.soon;
  }
