-- Each move keeps the rule of the feed.
use Rattle.std.proofs.Common.{◌≡◌, ◌≢◌, ℕ, zero, suc, true, false, true≢false, ◌<◌, ◌^◌, List, [], ◌∷◌, ◌++◌, length, set, sym, refl, ap, ◌∙◌, subst, ⊎_elim, append_assoc, zero-add}
use mathlib.Core.Option.{some, some-ne-none}
use lib.ListN.{get_elem?}
use Rattle.crossbeam_channel.specs.Fifo.{Pushes, Pops, Forks, Merges, Learns}
use Rattle.atomic_table.proofs.Lists.{at_set, at_snoc}
use Rattle.nn_feed.specs.declared.rule.Placed.{Placed}
use Rattle.nn_feed.specs.declared.rule.Log.{Log}
use Rattle.nn_segment.specs.Source.{Answer}
use Rattle.nn_feed.specs.Feeds.{placed, is_last, has_last, IsFeed}
use Rattle.nn_feed.specs.Rule.{log, Fits, IsFed}
use Rattle.nn_feed.proofs.Feeds.{feed_push, feed_prefix}

at_end : (l : List Log) (a b : Log) (j : ℕ) → get_elem? l j ≢ some b → get_elem? (l ++ a ∷ []) j ≡ some b → j ≡ length l
at_end [] a b zero n e = refl
at_end [] a b (suc j) n e = absurd (some-ne-none b (sym e))
at_end (x ∷ xs) a b zero n e = absurd (n e)
at_end (x ∷ xs) a b (suc j) n e = ap suc (at_end xs a b j n e)

abbrev All : (ℕ → Log → Type 0) → List Log → Type 0
All F views = (pass : ℕ) (v : Log) → get_elem? views pass ≡ some v → F pass v

all_set : (F : ℕ → Log → Type 0) (views : List Log) (pass : ℕ) (w : Log) → F pass w → ((j : ℕ) (u : Log) → j ≢ pass → get_elem? views j ≡ some u → F j u) → All F (set views pass w)
all_set F views pass w mine others j u e = ⊎_elim (λ (x : (j ≡ pass) × (w ≡ u)). subst (λ (y : ℕ × Log). F y.0 y.1) (λ i. (sym x.0 i, x.1 i)) mine)
    (λ (x : (j ≢ pass) × (get_elem? views j ≡ some u)). others j u x.0 x.1) (at_set views pass j w u e)

pub begins : IsFed [] (log true true [] [] ∷ [])
begins = (0, 0, [], [], refl, tt, all_set (Fits 0 0 [] []) (log true true [] [] ∷ []) 0 (log true true [] []) ((λ _. (refl, refl)), λ _. (refl, refl)) (λ j u other e. absurd (other (at_end [] _ u j (λ x. some-ne-none u (sym x)) e))))

-- what may be put: after no last answer, at its place, and no segment too many
pub puts : (n pass : ℕ) (v : Log) (a : Answer) (place : ℕ) → v ≡ log true false v.put [] → place ≡ length v.put → has_last v.put ≡ false → (is_last a ≡ false → place < 2 ^ 60)
    → Pushes IsFed n pass v (placed a place) (λ w. w ≡ log true false (v.put ++ placed a place ∷ []) [])
puts n pass v a place role at_place no_last fits items views _ h at =
    let x : Placed = placed a place in let w : Log = log true false (v.put ++ x ∷ []) [] in let mine = h.6 pass v at in
    let may : v.puts ≡ true = ap (λ u. u.puts) role in
    let same : v.put ≡ h.2 = (mine.0 may).1 in
    let put = h.2 ++ x ∷ [] in (
      w,
      (
        h.0,
        h.1,
        put,
        h.3,
        ap (λ l. l ++ x ∷ []) h.4 ∙ append_assoc h.3 items (x ∷ []),
        subst (λ l. IsFeed 0 (l ++ x ∷ [])) same (feed_push 0 v.put a place (at_place ∙ sym (zero-add (length v.put))) (subst (IsFeed 0) (sym same) h.5) no_last fits),
        all_set (Fits h.0 h.1 put h.3) views pass w ((λ _. ((mine.0 may).0, ap (λ l. l ++ x ∷ []) same)), λ p. absurd (true≢false (sym p)))
            (λ j u other e. ((λ p. absurd (other (((h.6 j u e).0 p).0 ∙ sym (mine.0 may).0))), (h.6 j u e).1)),
      ),
      refl,
    )

pub gets : (pass : ℕ) (v : Log) → v ≡ log false true [] v.got → Pops IsFed pass v (λ x w. (w ≡ log false true [] (v.got ++ x ∷ [])) × IsFeed 0 (v.got ++ x ∷ []))
gets pass v role x items views h at =
    let w : Log = log false true [] (v.got ++ x ∷ []) in let mine = h.6 pass v at in
    let may : v.gets ≡ true = ap (λ u. u.gets) role in
    let same : v.got ≡ h.3 = (mine.1 may).1 in
    let got = h.3 ++ x ∷ [] in
    let is : h.2 ≡ got ++ items = h.4 ∙ sym (append_assoc h.3 (x ∷ []) items) in (
      w,
      (
        h.0,
        h.1,
        h.2,
        got,
        is,
        h.5,
        all_set (Fits h.0 h.1 h.2 got) views pass w ((λ p. absurd (true≢false (sym p))), λ _. ((mine.1 may).0, ap (λ l. l ++ x ∷ []) same))
            (λ j u other e. ((h.6 j u e).0, λ p. absurd (other (((h.6 j u e).1 p).0 ∙ sym (mine.1 may).0)))),
      ),
      (refl, subst (λ l. IsFeed 0 (l ++ x ∷ [])) (sym same) (feed_prefix 0 got items (subst (IsFeed 0) is h.5))),
    )

pub learns_nothing : (pass : ℕ) (v : Log) → Learns IsFed pass v (λ items. Unit {0})
learns_nothing pass v items views h at = tt

pub forks : (pass : ℕ) (v : Log) → v.puts ≡ true → v.gets ≡ true → Forks IsFed pass v (log true false v.put []) (log false true [] v.got)
forks pass v a b items views h at =
    let l : Log = log true false v.put [] in let r : Log = log false true [] v.got in let mine = h.6 pass v at in let vs : List Log = set views pass l in
    let Old : ℕ → Log → Type 0 = λ j u. (u.puts ≡ true → (j ≡ h.0) × (u.put ≡ h.2)) × (u.gets ≢ true) in
    let old : All Old vs = all_set Old views pass l ((λ _. mine.0 a), λ p. true≢false (sym p)) (λ j u other e. ((h.6 j u e).0, λ p. other (((h.6 j u e).1 p).0 ∙ sym (mine.1 b).0))) in (
      h.0,
      length vs,
      h.2,
      h.3,
      h.4,
      h.5,
      λ j u e. ⊎_elim (λ x. ((old j u x).0, λ p. absurd ((old j u x).1 p)))
          (λ (is : r ≡ u). ((λ p. absurd (true≢false (sym (ap (λ (y : Log). y.puts) is ∙ p)))), λ p. (at_end vs r u j (λ x. (old j u x).1 p) e, ap (λ (y : Log). y.got) (sym is) ∙ (mine.1 b).1))) (at_snoc vs r u j e),
    )

pub merges : (pass : ℕ) (v : Log) (other : ℕ) (u : Log) → v.puts ≡ true → u.gets ≡ true → Merges IsFed pass v other u (log true true v.put u.got) (log false false [] [])
merges pass v other u a b items views h at two at' =
    let both : Log = log true true v.put u.got in let mine = h.6 pass v at in let vs : List Log = set views pass both in
    let was : get_elem? views other ≡ some u = ⊎_elim (λ x. absurd (two x.0)) (λ x. x.1) (at_set views pass other both u at') in let theirs = (h.6 other u was).1 b in
    let Now : ℕ → Log → Type 0 = λ j y. j ≢ other → Fits h.0 pass h.2 h.3 j y in
    let now : All Now vs = all_set Now views pass both (λ _. ((λ _. mine.0 a), λ _. (refl, theirs.1))) (λ j y _ e apart. ((h.6 j y e).0, λ p. absurd (apart (((h.6 j y e).1 p).0 ∙ sym theirs.0)))) in
    (h.0, pass, h.2, h.3, h.4, h.5, all_set (Fits h.0 pass h.2 h.3) vs other (log false false [] []) ((λ p. absurd (true≢false (sym p))), λ p. absurd (true≢false (sym p))) (λ j y apart e. now j y e apart))

pub totals : (pass : ℕ) (v : Log) → v.puts ≡ true → v.gets ≡ true → Learns IsFed pass v (λ items. (v.put ≡ v.got ++ items) × IsFeed 0 v.put)
totals pass v a b items views h at =
    let mine = h.6 pass v at in ((mine.0 a).1 ∙ h.4 ∙ ap (λ l. l ++ items) (sym (mine.1 b).1), subst (IsFeed 0) (sym (mine.0 a).1) h.5)
