-- A pass through the places of a queue.
use Rattle.std.proofs.Common.{◌≡◌, ℕ, zero, suc, ◌+◌, ◌≤◌, ◌<◌, Bool, true, false, cond, not, List, [], ◌∷◌, ◌++◌, length, take, get_or}
use Rattle.std.proofs.Common.{Some, None, Option, sym, ap, ◌∙◌, arith, append-nil, length-append}
use Rattle.std.specs.List.{list_any}
use Rattle.std.proofs.lemmas.Bool.{or_left, or_right}
use Rattle.nn_types.specs.declared.report.Message.{Message}
use Rattle.nn_postponed.specs.Places.{present}
use Rattle.nn_postponed.specs.Release.{freed}
use Rattle.nn_postponed.specs.Scans.{will_go}
use Rattle.nn_postponed.proofs.Frees.{freed_push}
use Rattle.nn_postponed.proofs.Steps.{late_is, any_push}
use Rattle.nn_postponed.proofs.Places.{one_more, none_more}

-- ---- how many go

module _ (due : Message → Bool) (xs : List (Option Message)) (i : ℕ) (d : Option Message) (in_range : i < length xs) where
  freed_more : (m : Message) (r : Bool) → get_or xs i d ≡ Some m → r ≡ will_go due (present (take i xs)) m →
      freed due [] (present (take (i + 1) xs)) ≡ freed due [] (present (take i xs)) ++ cond (not r) [] (m ∷ [])
  freed_more m r got goes =
      ap (freed due []) (one_more xs i d in_range m got) ∙ freed_push due [] (present (take i xs)) m
      ∙ ap (λ t. freed due [] (present (take i xs)) ++ cond t [] (m ∷ [])) (late_is due (present (take i xs)) m ∙ ap not (sym goes))

  pub one_goes : (m : Message) (r : Bool) → get_or xs i d ≡ Some m → r ≡ will_go due (present (take i xs)) m → r ≡ true →
      length (freed due [] (present (take (i + 1) xs))) ≡ length (freed due [] (present (take i xs))) + 1
  one_goes m r got goes now = ap length (freed_more m r got goes) ∙ ap (λ t. length (freed due [] (present (take i xs)) ++ cond (not t) [] (m ∷ []))) now
      ∙ length-append (freed due [] (present (take i xs))) (m ∷ [])

  pub one_stays : (m : Message) (r : Bool) → get_or xs i d ≡ Some m → r ≡ will_go due (present (take i xs)) m → r ≡ false →
      length (freed due [] (present (take (i + 1) xs))) ≡ length (freed due [] (present (take i xs)))
  one_stays m r got goes now = ap length (freed_more m r got goes) ∙ ap (λ t. length (freed due [] (present (take i xs)) ++ cond (not t) [] (m ∷ []))) now
      ∙ ap length (append-nil (freed due [] (present (take i xs))))

  pub hole_passed : get_or xs i d ≡ None → length (freed due [] (present (take (i + 1) xs))) ≡ length (freed due [] (present (take i xs)))
  hole_passed got = ap (λ l. length (freed due [] l)) (none_more xs i d in_range got)

-- ---- one of the messages before a place

any_more : (p : Message → Bool) (x : Option Message) (xs : List (Option Message)) → list_any p (present xs) ≡ true → list_any p (present (x ∷ xs)) ≡ true
any_more p None xs has = has
any_more p (Some m) xs has = or_right (p m) (list_any p (present xs)) has

pub found_before : (p : Message → Bool) (xs : List (Option Message)) (i end : ℕ) (d : Option Message) (m : Message) → i < end → end ≤ length xs → get_or xs i d ≡ Some m → p m ≡ true →
    true ≡ list_any p (present (take end xs))
found_before p [] i end d m lt le got hit = absurd (omega (arith, lt, le))
found_before p (x ∷ xs) i zero d m lt le got hit = absurd (omega (arith, lt))
found_before p (x ∷ xs) zero (suc end) d m lt le got hit =
    sym (ap (λ y. list_any p (present (y ∷ take end xs))) got ∙ or_left (p m) (list_any p (present (take end xs))) hit)
found_before p (x ∷ xs) (suc i) (suc end) d m lt le got hit =
    sym (any_more p x (take end xs) (sym (found_before p xs i end d m (omega (arith, lt)) (omega (arith, le)) got hit)))

module _ (p : Message → Bool) (xs : List (Option Message)) (i : ℕ) (d : Option Message) (in_range : i < length xs) (none : list_any p (present (take i xs)) ≡ false) where
  pub passed_hole : get_or xs i d ≡ None → list_any p (present (take (i + 1) xs)) ≡ false
  passed_hole got = ap (list_any p) (none_more xs i d in_range got) ∙ none

  pub passed_other : (m : Message) → get_or xs i d ≡ Some m → p m ≡ false → list_any p (present (take (i + 1) xs)) ≡ false
  passed_other m got other = ap (list_any p) (one_more xs i d in_range m got) ∙ any_push p (present (take i xs)) m none other
