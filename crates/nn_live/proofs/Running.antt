-- What a service tells of no bytes, and of an input where no line was taken.
use Rattle.std.proofs.Common.{◌≡◌, ℕ, Bool, true, false, List, [], ◌∷◌, ◌++◌, refl, sym, ap, ◌∙◌, inl, inr, append_assoc}
use Rattle.nn_model.specs.Namespace.{root_alone}
use Rattle.nn_live.specs.Live.{LiveSetup, new_service, so_far, takes_pieces, told_so_far}
use Rattle.nn_live.specs.Running.{IsHalt, IsToldAtOnce, StandsBehind, asked_by, lines_say}
use Rattle.nn_live.specs.declared.run.LiveEnd.TheVariants as halt
use Rattle.nn_live.specs.declared.run.LiveOptions.{LiveOptions}

nothing_told : (asked : LiveSetup) (from_image : Bool) → told_so_far asked from_image [] ≡ []
unfolding takes_pieces
nothing_told asked true = refl
nothing_told asked false = refl

module _ (o : LiveOptions) where
  -- what is told of no bytes
  pub nothing_said : lines_say o [] ≡ []
  nothing_said = nothing_told (asked_by o) o.from_image

  -- where nothing was told, no byte came, or no line was taken
  pub none_taken : (bytes : List ℕ) → IsHalt o bytes [] halt.OutOfMemory
  none_taken [] = inl (refl, refl)
  none_taken (b ∷ bytes) = inr (record {
    taken = [];
    left = b ∷ bytes;
    are = refl;
    some = λ e. absurd (cc);
    part = [];
    begins = ap (λ t. t ++ []) (sym nothing_said);
    cut = record { rest = lines_say o (b ∷ bytes); is = ap (λ t. (t ++ []) ++ lines_say o (b ∷ bytes)) (sym nothing_said); short = λ empty. refl };
  })

  -- a service at the root alone, where no image was asked for
  pub root_stands : o.from_image ≡ false → StandsBehind o [] (new_service root_alone 0)
  root_stands isnt more = ap (λ b. so_far (asked_by o) b more) isnt

  -- more is told of what came
  pub told_more : (bytes told more : List ℕ) → IsToldAtOnce o bytes told → IsToldAtOnce o bytes (told ++ more)
  told_more bytes told more is = record {
    earlier = is.earlier;
    last = is.last;
    are = is.are;
    one_read = is.one_read;
    before = (is.before.0 ++ more, ap (λ t. t ++ more) is.before.1 ∙ append_assoc (lines_say o is.earlier) is.before.0 more);
  }
