-- The table of the short keys: each key's entry stands in its place, and each entry is a key's or has no length.
use Rattle.std.proofs.Common.{◌≡◌, ◌⊎◌, inl, inr, ℕ, zero, suc, ◌<◌, ◌≤◌, List, [], ◌∷◌, length, get_or, Option, Some, None, codes, bytes_eq, true, false, refl, sym, ap, ◌∙◌, subst, arith}
use Rattle.std.proofs.lemmas.Slice.Eq.{bytes_eq-Decides}
use lib.Lanes.{Each1}
use Rattle.nn_plain.specs.Words.{Begins, high_word}
use Rattle.nn_plain.proofs.KeyWords.{high_words_same, key_small}
use Rattle.nn_edits.specs.Parts.{slot_of, slot_text, all_slots, no_short_key, short_key_at, place_of}
use Rattle.nn_edits.specs.declared.keys.ShortKey.{ShortKey}
use Rattle.nn_edits.specs.declared.keys.NumberKey.TheVariants as number
use Rattle.nn_edits.specs.declared.keys.TextKey.TheVariants as text
use Rattle.nn_edits.specs.declared.keys.Slot.{Slot}
use Rattle.nn_edits.specs.declared.keys.Slot.TheVariants.{Number, Text, Blocks}
use Rattle.nn_edits.specs.declared.keys.TheConstants.{SHORT_KEYS}
use Rattle.nn_edits.proofs.Results.{first_named_some}

abbrev IsKeys : ShortKey → Type 0
IsKeys e = (e.len ≡ 0) ⊎ ((e.word ≡ high_word (slot_text e.slot)) × (e.len ≡ length (slot_text e.slot)))

abbrev AreKeys : List ShortKey → Type 0
AreKeys [] = Unit {0}
AreKeys (e ∷ es) = IsKeys e × AreKeys es

entry_in : (es : List ShortKey) (i : ℕ) → AreKeys es → i < length es → IsKeys (get_or es i no_short_key)
entry_in [] i all within = absurd (omega (arith, within))
entry_in (e ∷ es) zero all within = all.0
entry_in (e ∷ es) (suc i) all within = entry_in es i all.1 (omega (arith, within))

each_entry : AreKeys SHORT_KEYS
each_entry = (inl refl, (inr (refl, refl), (inr (refl, refl), (inr (refl, refl), (inr (refl, refl), (inr (refl, refl), (inl refl, (inr (refl, refl), (inr (refl, refl), (inr (refl, refl), (inr (refl, refl), (inr (refl, refl), (inr (refl, refl), (inl refl, (inr (refl, refl), (inr (refl, refl), tt))))))))))))))))

abbrev entry_of : Slot → ShortKey
entry_of slot = record { word = high_word (slot_text slot); len = length (slot_text slot); slot = slot }

at_its_place : (slot : Slot) → length (slot_text slot) ≤ 8 → short_key_at (place_of (high_word (slot_text slot))) ≡ entry_of slot
at_its_place (Number number.Txid) short = refl
at_its_place (Number number.Replication) short = absurd (omega (arith, short))
at_its_place (Number number.Id) short = refl
at_its_place (Number number.Stamp) short = refl
at_its_place (Number number.Profile) short = refl
at_its_place (Number number.Dn) short = refl
at_its_place (Number number.Block) short = refl
at_its_place (Number number.Len) short = refl
at_its_place (Text text.Op) short = refl
at_its_place (Text text.Path) short = refl
at_its_place (Text text.Src) short = refl
at_its_place (Text text.Dst) short = refl
at_its_place (Text text.Kind) short = refl
at_its_place Blocks short = refl

small_text : (slot : Slot) → Each1 (λ b. b < 256) (slot_text slot)
small_text (Number number.Txid) = (omega arith, (omega arith, (omega arith, (omega arith, tt))))
small_text (Number number.Replication) = (omega arith, (omega arith, (omega arith, (omega arith, (omega arith, (omega arith, (omega arith, (omega arith, (omega arith, (omega arith, (omega arith, tt)))))))))))
small_text (Number number.Id) = (omega arith, (omega arith, tt))
small_text (Number number.Stamp) = (omega arith, (omega arith, (omega arith, tt)))
small_text (Number number.Profile) = (omega arith, (omega arith, (omega arith, (omega arith, (omega arith, (omega arith, (omega arith, tt)))))))
small_text (Number number.Dn) = (omega arith, (omega arith, tt))
small_text (Number number.Block) = (omega arith, (omega arith, (omega arith, (omega arith, (omega arith, tt)))))
small_text (Number number.Len) = (omega arith, (omega arith, (omega arith, tt)))
small_text (Text text.Op) = (omega arith, (omega arith, tt))
small_text (Text text.Path) = (omega arith, (omega arith, (omega arith, (omega arith, tt))))
small_text (Text text.Src) = (omega arith, (omega arith, (omega arith, tt)))
small_text (Text text.Dst) = (omega arith, (omega arith, (omega arith, tt)))
small_text (Text text.Kind) = (omega arith, (omega arith, (omega arith, (omega arith, tt))))
small_text Blocks = (omega arith, (omega arith, (omega arith, (omega arith, (omega arith, (omega arith, tt))))))

slot_of_text : (slot : Slot) → slot_of (slot_text slot) ≡ Some slot
unfolding slot_of
slot_of_text (Number number.Txid) = refl
slot_of_text (Number number.Replication) = refl
slot_of_text (Number number.Id) = refl
slot_of_text (Number number.Stamp) = refl
slot_of_text (Number number.Profile) = refl
slot_of_text (Number number.Dn) = refl
slot_of_text (Number number.Block) = refl
slot_of_text (Number number.Len) = refl
slot_of_text (Text text.Op) = refl
slot_of_text (Text text.Path) = refl
slot_of_text (Text text.Src) = refl
slot_of_text (Text text.Dst) = refl
slot_of_text (Text text.Kind) = refl
slot_of_text Blocks = refl

named : (key : List ℕ) (slot : Slot) → slot_of key ≡ Some slot → key ≡ slot_text slot
unfolding slot_of
named key slot e = first_named_some slot_text key all_slots slot e

-- A key with the word and the length of an entry has the entry's slot.
pub found : (key : List ℕ) (word i : ℕ) (e : ShortKey) → i < 16 → e ≡ short_key_at i → Begins word key → 1 ≤ length key → e.word ≡ high_word key → e.len ≡ length key → Some e.slot ≡ slot_of key
found key word i e within is begins some same long = at (subst IsKeys (sym is) (entry_in SHORT_KEYS i each_entry within))
  where
    at : IsKeys e → Some e.slot ≡ slot_of key
    at (inl none) = absurd (omega (arith, none, long, some))
    at (inr own) =
        let text : slot_text e.slot ≡ key = high_words_same (slot_text e.slot) key (sym own.1 ∙ long) (small_text e.slot) (key_small word key begins) (sym own.0 ∙ same) in
        sym (slot_of_text e.slot) ∙ ap slot_of text

-- A key that has a slot has its entry in its place.
pub not_found : (key : List ℕ) (e : ShortKey) → length key ≤ 8 → e ≡ short_key_at (place_of (high_word key)) → (e.word ≡ high_word key → e.len ≡ length key → ⊥) → None ≡ slot_of key
not_found key e short is other = at (slot_of key) refl
  where
    at : (o : Option Slot) → slot_of key ≡ o → None ≡ slot_of key
    at None none = sym none
    at (Some slot) there =
        let text : key ≡ slot_text slot = named key slot there in
        let own : e ≡ entry_of slot = is ∙ ap (λ (k : List ℕ). short_key_at (place_of (high_word k))) text ∙ at_its_place slot (subst (λ (k : List ℕ). length k ≤ 8) text short) in
        absurd (other (ap (λ x. x.word) own ∙ ap high_word (sym text)) (ap (λ x. x.len) own ∙ ap length (sym text)))

-- ---- Keys of no entry.

pub long_key : (key : List ℕ) → key ≡ codes "replication" → Some (Number number.Replication) ≡ slot_of key
long_key key is = sym (slot_of_text (Number number.Replication)) ∙ ap slot_of (sym is)

short_or_it : (slot : Slot) (key : List ℕ) → key ≡ slot_text slot → (length key ≡ 0) ⊎ (8 < length key) → slot ≡ Number number.Replication
short_or_it (Number number.Replication) key is other = refl
short_or_it (Number number.Txid) key is (inl none) = absurd (omega (arith, none, ap length is))
short_or_it (Number number.Txid) key is (inr long) = absurd (omega (arith, long, ap length is))
short_or_it (Number number.Id) key is (inl none) = absurd (omega (arith, none, ap length is))
short_or_it (Number number.Id) key is (inr long) = absurd (omega (arith, long, ap length is))
short_or_it (Number number.Stamp) key is (inl none) = absurd (omega (arith, none, ap length is))
short_or_it (Number number.Stamp) key is (inr long) = absurd (omega (arith, long, ap length is))
short_or_it (Number number.Profile) key is (inl none) = absurd (omega (arith, none, ap length is))
short_or_it (Number number.Profile) key is (inr long) = absurd (omega (arith, long, ap length is))
short_or_it (Number number.Dn) key is (inl none) = absurd (omega (arith, none, ap length is))
short_or_it (Number number.Dn) key is (inr long) = absurd (omega (arith, long, ap length is))
short_or_it (Number number.Block) key is (inl none) = absurd (omega (arith, none, ap length is))
short_or_it (Number number.Block) key is (inr long) = absurd (omega (arith, long, ap length is))
short_or_it (Number number.Len) key is (inl none) = absurd (omega (arith, none, ap length is))
short_or_it (Number number.Len) key is (inr long) = absurd (omega (arith, long, ap length is))
short_or_it (Text text.Op) key is (inl none) = absurd (omega (arith, none, ap length is))
short_or_it (Text text.Op) key is (inr long) = absurd (omega (arith, long, ap length is))
short_or_it (Text text.Path) key is (inl none) = absurd (omega (arith, none, ap length is))
short_or_it (Text text.Path) key is (inr long) = absurd (omega (arith, long, ap length is))
short_or_it (Text text.Src) key is (inl none) = absurd (omega (arith, none, ap length is))
short_or_it (Text text.Src) key is (inr long) = absurd (omega (arith, long, ap length is))
short_or_it (Text text.Dst) key is (inl none) = absurd (omega (arith, none, ap length is))
short_or_it (Text text.Dst) key is (inr long) = absurd (omega (arith, long, ap length is))
short_or_it (Text text.Kind) key is (inl none) = absurd (omega (arith, none, ap length is))
short_or_it (Text text.Kind) key is (inr long) = absurd (omega (arith, long, ap length is))
short_or_it Blocks key is (inl none) = absurd (omega (arith, none, ap length is))
short_or_it Blocks key is (inr long) = absurd (omega (arith, long, ap length is))

pub no_long_key : (key : List ℕ) → (length key ≡ 0) ⊎ (8 < length key) → bytes_eq key (codes "replication") ≡ false → None ≡ slot_of key
no_long_key key other unlike = at (slot_of key) refl
  where
    at : (o : Option Slot) → slot_of key ≡ o → None ≡ slot_of key
    at None none = sym none
    at (Some slot) there =
        let text = named key slot there in
        let it = short_or_it slot key text other in
        let clash : true ≡ false = sym ((bytes_eq-Decides key (codes "replication")).1 (text ∙ ap slot_text it)) ∙ unlike in
        absurd (cc)
