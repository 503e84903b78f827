-- What is no word and no data changes nothing.
use Rattle.std.proofs.Common.{◌≡◌, ℕ, ◌≤◌, ◌+◌, ◌==◌, ◌&&◌, ◌||◌, leb, Bool, true, false, cond, List, [], ◌∷◌, ◌++◌, length, Option, Some, None, Err, refl, sym, ap, ap₂, ◌∙◌, arith, append_assoc, leb-true}
use Rattle.std.specs.Prelude.{codes, decimal}
use Rattle.std.specs.List.{list_all}
use Rattle.std.proofs.lemmas.Bool.{and_parts, ne_eqb}
use Rattle.nn_types.specs.declared.fault.TheConstants.{NOT_JSON}
use Rattle.nn_edits.specs.Fault.{number_of}
use Rattle.nn_edits.specs.Reading.{either_of_line}
use Rattle.nn_edits.specs.declared.fault.LineFault.{LineFault}
use Rattle.nn_listing.specs.Summary.{line}
use Rattle.nn_bytes.specs.Lines.{is_blank, is_blank_byte}
use Rattle.nn_live.specs.Help.{unknown_text}
use Rattle.nn_live.specs.Live.{LiveSetup, ServiceState, answers, counts_line, takes, takes_read, takes_torn}
use Rattle.nn_live.specs.WordLaws.{IsMistyped, IsNothing, MistypedChangesNothing, NothingChangesNothing, TornWordChangesNothing, next_fault, only_told}
use Rattle.nn_live.specs.Words.{begins_as_word, known_word, or_else, unknown_word, word_in}
use Rattle.nn_live.specs.declared.word.Word.{Word}
use Rattle.nn_live.specs.declared.word.Word.TheVariants as word
use Rattle.nn_live.proofs.Reading.{by_kind, line_is, torn_by, torn_is}
use Rattle.nn_live.proofs.WordTexts.{short_line}

-- a letter is not blank
is_no_blank : (text : List ℕ) → begins_as_word text ≡ true → is_blank text ≡ false
is_no_blank [] begins = absurd (cc)
is_no_blank (b ∷ text) begins =
    let parts = and_parts (leb 97 b) (leb b 122) begins in
    let low = leb-true 97 b parts.0 in
    let isnt : (x : ℕ) → x ≤ 32 → (b == x) ≡ false = λ x small. ne_eqb b x (λ e. absurd (omega (arith, e, low, small))) in
    ap (λ t. t && list_all is_blank_byte text) (ap₂ (λ x y. x || y) (ap₂ (λ x y. x || y) (isnt 32 (omega arith)) (isnt 9 (omega arith))) (isnt 13 (omega arith)))

some_length : (text : List ℕ) → begins_as_word text ≡ true → (length text == 0) ≡ false
some_length [] begins = absurd (cc)
some_length (b ∷ text) begins = ne_eqb (length (b ∷ text)) 0 (λ e. absurd (omega (arith, e)))

-- a short text that begins with a letter is a word, known or not
is_some_word : (text : List ℕ) → length text ≤ 65536 → begins_as_word text ≡ true → (w : Word) × (word_in text ≡ Some w)
is_some_word text short begins = at (known_word text) (short_line text short ∙ ap (λ t. or_else (known_word text) (cond t (Some word.Unknown) None)) begins)
  where
    at : (o : Option Word) → word_in text ≡ or_else o (Some word.Unknown) → (w : Word) × (word_in text ≡ Some w)
    at (Some w) e = (w, e)
    at None e = (word.Unknown, e)

pub mistyped_changes_nothing : MistypedChangesNothing
mistyped_changes_nothing asked s text is =
    line_is text asked s ∙ ap₂ (λ b o. by_kind text asked b o s) (is_no_blank text is.begins) unknown
    ∙ ap (λ w. record s { lines = s.lines + 1; written = w }) (append_assoc s.written unknown_text (line (codes "done") (decimal (s.lines + 1))))
  where
    unknown : word_in text ≡ Some word.Unknown
    unknown = short_line text is.short ∙ ap₂ (λ o t. or_else o (cond t (Some word.Unknown) None)) is.no_word is.begins

pub nothing_changes_nothing : NothingChangesNothing
nothing_changes_nothing asked s text fault is =
    line_is text asked s ∙ ap₂ (λ b o. by_kind text asked b o s) is.not_blank is.no_word ∙ ap (λ r. takes_read asked text r (counts_line s)) is.read

pub torn_word_changes_nothing : TornWordChangesNothing
torn_word_changes_nothing asked s text short begins =
    let w = is_some_word text short begins in
    torn_is text asked s ∙ ap (λ b. torn_by text asked b (is_blank text) (word_in text) s) (some_length text begins)
    ∙ ap₂ (λ b o. torn_by text asked false b o s) (is_no_blank text begins) w.1
