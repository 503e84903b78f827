use Rattle.nn_live.proofs.laws.a_promotion_shows_the_picture.Goals as goal
use Rattle.nn_live.proofs.Standing.{answers_the_picture}

pub returns : goal.returns
returns c = answers_the_picture
