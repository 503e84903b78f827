use Rattle.std.proofs.Common.{refl, inl, inr}
use Rattle.nn_command.proofs.program.run_service.Goals as goal

pub returns-in-Ok-clause-service : goal.returns-in-Ok-clause-service
returns-in-Ok-clause-service g c = (_, record { asked = refl; from_image = refl }, inl c.in-Ok.ensures.written)

pub returns-in-Err-clause-service : goal.returns-in-Err-clause-service
returns-in-Err-clause-service g c = (_, record { asked = refl; from_image = refl }, inr (_, c.in-Err.ensures.prefix, c.unwritten.ensures.status))
