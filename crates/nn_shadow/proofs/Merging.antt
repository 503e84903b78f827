-- Notes in the order of their blocks, merged with blocks that ascend: what is left is what the notes say one after another.
use Rattle.std.proofs.Common.{◌≡◌, ℕ, ◌≤◌, ◌<◌, Bool, true, false, cond, List, [], ◌∷◌, ◌++◌}
use Rattle.std.proofs.Common.{refl, sym, ap, subst, ◌∙◌, arith}
use Rattle.std.specs.Prelude.{◌==◌, nat_lt, ◌||◌}
use Rattle.std.specs.List.{AllByRecursion}
use Rattle.std.specs.Map.{remove_entry}
use Rattle.std.specs.BTreeMap.{insert_entry, is_at}
use Rattle.std.specs.Cmp.{nat_cmp_is}
use Rattle.std.specs.Ordering.{nat_cmp, is_eq, match_ordering}
use Rattle.std.specs.declared.cmp.Ordering.TheVariants.{Less, Equal, Greater}
use Rattle.std.proofs.lemmas.Bool.{eqb-true, eq-eqb, ltb-true, cond-true, cond-false, ltb-false, false_from_ne_true}
use Rattle.std.proofs.lemmas.Bool.Decides.{nat_tests}
use Rattle.nn_shadow.specs.Notes.{with_note, with_notes, before, onward, past, is_next, note_left, merged}

-- ---- comparing

pub less : (x y : ℕ) → x < y → nat_cmp x y ≡ Less
less x y h = sym (nat_cmp_is x y Less h)

pub greater : (x y : ℕ) → y < x → nat_cmp x y ≡ Greater
greater x y h = sym (nat_cmp_is x y Greater h)

pub equal : (x y : ℕ) → x ≡ y → nat_cmp x y ≡ Equal
equal x y h = sym (nat_cmp_is x y Equal h)

not_less : (x y : ℕ) → nat_lt x y ≡ false → y ≤ x
not_less x y is = ltb-false x y is

strictly : (x y : ℕ) → x ≤ y → (y == x) ≡ false → x < y
strictly x y le other = grind (arith, nat_tests)

false_ne_true : false ≡ true → ⊥
false_ne_true e = subst (λ (b : Bool). cond b ⊥ (Unit {0})) e tt

-- the blocks are all before this one
abbrev AllBefore : ℕ → List (ℕ × ℕ) → Type 0
AllBefore block = AllByRecursion (λ (had : ℕ × ℕ). had.0 < block)

-- all after it
abbrev pub AllAfter : ℕ → List (ℕ × ℕ) → Type 0
AllAfter block = AllByRecursion (λ (had : ℕ × ℕ). block < had.0)

-- none before it
abbrev pub NoneBefore : ℕ → List (ℕ × ℕ) → Type 0
NoneBefore block = AllByRecursion (λ (had : ℕ × ℕ). block ≤ had.0)

-- the blocks ascend
abbrev pub Ascend : List (ℕ × ℕ) → Type 0
Ascend [] = Unit {0}
Ascend (had ∷ has) = AllAfter had.0 has × Ascend has

-- the blocks do not descend
abbrev pub Rise : List (ℕ × ℕ) → Type 0
Rise [] = Unit {0}
Rise (note ∷ told) = NoneBefore note.0 told × Rise told

after_mono : (x y : ℕ) (es : List (ℕ × ℕ)) → x ≤ y → AllAfter y es → AllAfter x es
after_mono x y [] le h = tt
after_mono x y (e ∷ es) le h = (omega (arith, le, h.0), after_mono x y es le h.1)

before_mono : (x y : ℕ) (es : List (ℕ × ℕ)) → x ≤ y → AllBefore x es → AllBefore y es
before_mono x y [] le h = tt
before_mono x y (e ∷ es) le h = (omega (arith, le, h.0), before_mono x y es le h.1)

-- ---- one note

-- past blocks before it
note_behind : (prefix back : List (ℕ × ℕ)) (note : ℕ × ℕ) → AllBefore note.0 prefix → with_note (prefix ++ back) note ≡ prefix ++ with_note back note
note_behind [] back note h = refl
note_behind (e ∷ prefix) back note h =
    let later = note_behind prefix back note h.1 in
    let over = greater note.0 e.0 h.0 in
    elim (note.1 == 0) as (λ d. cond d (remove_entry (is_at (nat_cmp note.0)) (prefix ++ back)) (insert_entry nat_cmp (prefix ++ back) note.0 note.1)
    ≡ prefix ++ cond d (remove_entry (is_at (nat_cmp note.0)) back) (insert_entry nat_cmp back note.0 note.1)
    → cond d (remove_entry (is_at (nat_cmp note.0)) (e ∷ prefix ++ back)) (insert_entry nat_cmp (e ∷ prefix ++ back) note.0 note.1)
    ≡ e ∷ prefix ++ cond d (remove_entry (is_at (nat_cmp note.0)) back) (insert_entry nat_cmp back note.0 note.1)) [
      | true ↦ λ same. ap (λ o. cond (is_eq o) (prefix ++ back) (e ∷ remove_entry (is_at (nat_cmp note.0)) (prefix ++ back))) over ∙ ap (λ l. e ∷ l) same
      | false ↦ λ same. ap (λ o. match_ordering o ((note.0, note.1) ∷ e ∷ prefix ++ back) ((e.0, note.1) ∷ prefix ++ back) (e ∷ insert_entry nat_cmp (prefix ++ back) note.0 note.1)) over ∙ ap (λ l. e ∷ l) same
    ] later

pub not_there : (block : ℕ) (es : List (ℕ × ℕ)) → AllAfter block es → remove_entry (is_at (nat_cmp block)) es ≡ es
not_there block [] h = refl
not_there block (e ∷ es) h =
    ap (λ o. cond (is_eq o) es (e ∷ remove_entry (is_at (nat_cmp block)) es)) (less block e.0 h.0) ∙ ap (λ l. e ∷ l) (not_there block es h.1)

-- before blocks that are not before it
note_here : (back : List (ℕ × ℕ)) (note : ℕ × ℕ) → NoneBefore note.0 back → Ascend back →
    with_note back note ≡ cond (note.1 == 0) [] (note ∷ []) ++ past note.0 back
note_here [] note h asc = elim (note.1 == 0) as (λ d. cond d [] (note ∷ []) ≡ cond d [] (note ∷ []) ++ []) [ true ↦ refl | false ↦ refl ]
note_here (e ∷ es) note h asc =
    elim (e.0 == note.0) as (λ s. (e.0 == note.0) ≡ s → with_note (e ∷ es) note ≡ cond (note.1 == 0) [] (note ∷ []) ++ cond s es (e ∷ es)) [
      | true ↦ λ same. at_same (eqb-true e.0 note.0 same)
      | false ↦ λ other. at_other (strictly note.0 e.0 h.0 other)
    ] refl
  where
    at_same : e.0 ≡ note.0 → with_note (e ∷ es) note ≡ cond (note.1 == 0) [] (note ∷ []) ++ es
    at_same same =
        let tie = equal note.0 e.0 (sym same) in
        elim (note.1 == 0) as (λ d. cond d (remove_entry (is_at (nat_cmp note.0)) (e ∷ es)) (insert_entry nat_cmp (e ∷ es) note.0 note.1) ≡ cond d [] (note ∷ []) ++ es) [
          | true ↦ ap (λ o. cond (is_eq o) es (e ∷ remove_entry (is_at (nat_cmp note.0)) es)) tie
          | false ↦ ap (λ o. match_ordering o ((note.0, note.1) ∷ e ∷ es) ((e.0, note.1) ∷ es) (e ∷ insert_entry nat_cmp es note.0 note.1)) tie
              ∙ ap (λ b. (b, note.1) ∷ es) same
        ]

    at_other : note.0 < e.0 → with_note (e ∷ es) note ≡ cond (note.1 == 0) [] (note ∷ []) ++ e ∷ es
    at_other lt =
        let under = less note.0 e.0 lt in
        elim (note.1 == 0) as (λ d. cond d (remove_entry (is_at (nat_cmp note.0)) (e ∷ es)) (insert_entry nat_cmp (e ∷ es) note.0 note.1) ≡ cond d [] (note ∷ []) ++ e ∷ es) [
          | true ↦ ap (λ o. cond (is_eq o) es (e ∷ remove_entry (is_at (nat_cmp note.0)) es)) under
              ∙ ap (λ l. e ∷ l) (not_there note.0 es (after_mono note.0 e.0 es (omega (arith, lt)) asc.0))
          | false ↦ ap (λ o. match_ordering o ((note.0, note.1) ∷ e ∷ es) ((e.0, note.1) ∷ es) (e ∷ insert_entry nat_cmp es note.0 note.1)) under
        ]

-- ---- several notes

-- each of them is about a block past these
abbrev AllPast : List (ℕ × ℕ) → List (ℕ × ℕ) → Type 0
AllPast prefix = AllByRecursion (λ (note : ℕ × ℕ). AllBefore note.0 prefix)

notes_behind : (prefix back told : List (ℕ × ℕ)) → AllPast prefix told → with_notes (prefix ++ back) told ≡ prefix ++ with_notes back told
notes_behind prefix back [] h = refl
notes_behind prefix back (note ∷ told) h =
    ap (λ l. with_notes l told) (note_behind prefix back note h.0) ∙ notes_behind prefix (with_note back note) told h.1

-- ---- the parts of a list

split : (block : ℕ) (has : List (ℕ × ℕ)) → has ≡ before block has ++ onward block has
split block [] = refl
split block (e ∷ es) = elim (nat_lt e.0 block) as (λ t. e ∷ es ≡ cond t (e ∷ before block es) [] ++ cond t (onward block es) (e ∷ es)) [
  | true ↦ ap (λ l. e ∷ l) (split block es)
  | false ↦ refl
]

before_all : (block : ℕ) (has : List (ℕ × ℕ)) → AllBefore block (before block has)
before_all block [] = tt
before_all block (e ∷ es) = elim (nat_lt e.0 block) as (λ t. nat_lt e.0 block ≡ t → AllBefore block (cond t (e ∷ before block es) [])) [
  | true ↦ λ is. (ltb-true e.0 block is, before_all block es)
  | false ↦ λ is. tt
] refl

onward_ascends : (block : ℕ) (has : List (ℕ × ℕ)) → Ascend has → Ascend (onward block has)
onward_ascends block [] asc = tt
onward_ascends block (e ∷ es) asc = elim (nat_lt e.0 block) as (λ t. Ascend (cond t (onward block es) (e ∷ es))) [
  | true ↦ onward_ascends block es asc.1
  | false ↦ asc
]

none_from_after : (x y : ℕ) (es : List (ℕ × ℕ)) → x ≤ y → AllAfter y es → NoneBefore x es
none_from_after x y [] le h = tt
none_from_after x y (e ∷ es) le h = (omega (arith, le, h.0), none_from_after x y es le h.1)

onward_none : (block : ℕ) (has : List (ℕ × ℕ)) → Ascend has → NoneBefore block (onward block has)
onward_none block [] asc = tt
onward_none block (e ∷ es) asc = elim (nat_lt e.0 block) as (λ t. nat_lt e.0 block ≡ t → NoneBefore block (cond t (onward block es) (e ∷ es))) [
  | true ↦ λ is. onward_none block es asc.1
  | false ↦ λ is. let le = not_less e.0 block is in (le, none_from_after block e.0 es le asc.0)
] refl

past_ascends : (block : ℕ) (has : List (ℕ × ℕ)) → Ascend has → Ascend (past block has)
past_ascends block [] asc = tt
past_ascends block (e ∷ es) asc = elim (e.0 == block) as (λ t. Ascend (cond t es (e ∷ es))) [ true ↦ asc.1 | false ↦ asc ]

past_after : (block : ℕ) (has : List (ℕ × ℕ)) → NoneBefore block has → Ascend has → AllAfter block (past block has)
past_after block [] h asc = tt
past_after block (e ∷ es) h asc = elim (e.0 == block) as (λ t. (e.0 == block) ≡ t → AllAfter block (cond t es (e ∷ es))) [
  | true ↦ λ same. after_mono block e.0 es h.0 asc.0
  | false ↦ λ other. let lt : block < e.0 = strictly block e.0 h.0 other in (lt, after_mono block e.0 es h.0 asc.0)
] refl

-- what is after a block does not begin with it
past_none : (block : ℕ) (has : List (ℕ × ℕ)) → AllAfter block has → past block has ≡ has
past_none block [] h = refl
past_none block (e ∷ es) h = cond-false (e.0 == block) es (e ∷ es) (false_from_ne_true _ (λ same. absurd (differ (eqb-true e.0 block same))))
  where
    differ : e.0 ≡ block → ⊥
    differ same = omega (arith, h.0, same)

-- ---- the notes that are left

-- this list is before each later note
past_each : (block : ℕ) (prefix told : List (ℕ × ℕ)) → AllBefore block prefix → NoneBefore block told → AllPast prefix told
past_each block prefix [] h none = tt
past_each block prefix (note ∷ told) h none = (before_mono block note.0 prefix none.0 h, past_each block prefix told h none.1)

own_past : (note : ℕ × ℕ) (told : List (ℕ × ℕ)) → AllAfter note.0 told → AllPast (cond (note.1 == 0) [] (note ∷ [])) told
own_past note [] h = tt
own_past note (next ∷ told) h =
    (elim (note.1 == 0) as (λ d. AllBefore next.0 (cond d [] (note ∷ []))) [ true ↦ tt | false ↦ (h.0, tt) ], own_past note told h.1)

-- where the next note is not about the block, none is
later_after : (block : ℕ) (told : List (ℕ × ℕ)) → is_next block told ≡ false → NoneBefore block told → Rise told → AllAfter block told
later_after block [] other none rise = tt
later_after block (note ∷ told) other none rise =
    let lt : block < note.0 = strictly block note.0 none.0 other in
    (lt, after_from_none block note.0 told lt rise.0)
  where
    after_from_none : (x y : ℕ) (es : List (ℕ × ℕ)) → x < y → NoneBefore y es → AllAfter x es
    after_from_none x y [] lt h = tt
    after_from_none x y (e ∷ es) lt h = (omega (arith, lt, h.0), after_from_none x y es lt h.1)

-- a note is as nothing before the next one about its block
note_again : (back : List (ℕ × ℕ)) (note : ℕ × ℕ) (told : List (ℕ × ℕ)) → AllAfter note.0 back → Ascend back → is_next note.0 told ≡ true →
    with_notes (cond (note.1 == 0) [] (note ∷ []) ++ back) told ≡ with_notes back told
note_again back note [] after asc next = absurd (false_ne_true next)
note_again back note (again ∷ told) after asc next = ap (λ l. with_notes l told) (over (eqb-true again.0 note.0 next))
  where
    over : again.0 ≡ note.0 → with_note (cond (note.1 == 0) [] (note ∷ []) ++ back) again ≡ with_note back again
    over same =
        let here : AllAfter again.0 back = after_mono again.0 note.0 back (omega (arith, same)) after in
        elim (note.1 == 0) as (λ d. with_note (cond d [] (note ∷ []) ++ back) again ≡ with_note back again) [
          | true ↦ refl
          | false ↦
              note_here (note ∷ back) again (omega (arith, same), none_from_after again.0 again.0 back (omega arith) here) (after, asc)
              ∙ ap (λ l. cond (again.1 == 0) [] (again ∷ []) ++ l)
              (cond-true (note.0 == again.0) back (note ∷ back) (eq-eqb note.0 again.0 (sym same)) ∙ sym (past_none again.0 back here))
              ∙ sym (note_here back again (none_from_after again.0 again.0 back (omega arith) here) asc)
        ]

kept_is : (note : ℕ × ℕ) (told back : List (ℕ × ℕ)) → AllAfter note.0 back → Ascend back → NoneBefore note.0 told → Rise told →
    note_left note told ++ with_notes back told ≡ with_notes (cond (note.1 == 0) [] (note ∷ []) ++ back) told
kept_is note told back after asc none rise =
    elim (is_next note.0 told) as (λ t. is_next note.0 told ≡ t → cond ((note.1 == 0) || t) [] (note ∷ []) ++ with_notes back told
    ≡ with_notes (cond (note.1 == 0) [] (note ∷ []) ++ back) told) [
      | true ↦ λ next. ap (λ l. l ++ with_notes back told) nothing ∙ sym (note_again back note told after asc next)
      | false ↦ λ other. ap (λ l. l ++ with_notes back told) it
          ∙ sym (notes_behind (cond (note.1 == 0) [] (note ∷ [])) back told (own_past note told (later_after note.0 told other none rise)))
    ] refl
  where
    nothing : cond ((note.1 == 0) || true) [] (note ∷ []) ≡ []
    nothing = elim (note.1 == 0) as (λ d. cond (d || true) [] (note ∷ []) ≡ []) [ true ↦ refl | false ↦ refl ]

    it : cond ((note.1 == 0) || false) [] (note ∷ []) ≡ cond (note.1 == 0) [] (note ∷ [])
    it = elim (note.1 == 0) as (λ d. cond (d || false) [] (note ∷ []) ≡ cond d [] (note ∷ [])) [ true ↦ refl | false ↦ refl ]

-- ---- all notes

pub merged_is : (has told : List (ℕ × ℕ)) → Ascend has → Rise told → merged has told ≡ with_notes has told
merged_is has [] asc rise = refl
merged_is has (note ∷ told) asc rise =
    let prefix = before note.0 has in
    let tail = onward note.0 has in
    let back = past note.0 tail in
    let tail_asc = onward_ascends note.0 has asc in
    let tail_none = onward_none note.0 has asc in
    let back_asc = past_ascends note.0 tail tail_asc in
    let whole = ap (λ l. with_note l note) (split note.0 has) ∙ note_behind prefix tail note (before_all note.0 has)
    ∙ ap (λ l. prefix ++ l) (note_here tail note tail_none tail_asc) in
    let all = ap (λ l. with_notes l told) whole
    ∙ notes_behind prefix (cond (note.1 == 0) [] (note ∷ []) ++ back) told (past_each note.0 prefix told (before_all note.0 has) rise.0) in
    let rest = ap (λ l. note_left note told ++ l) (merged_is back told back_asc rise.1)
    ∙ kept_is note told back (past_after note.0 tail tail_none tail_asc) back_asc rise.0 rise.1 in
    ap (λ l. prefix ++ l) rest ∙ sym all
