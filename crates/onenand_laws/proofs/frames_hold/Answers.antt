use Rattle.onenand_laws.proofs.Frames.{frames}
use Rattle.onenand_laws.proofs.frames_hold.Goals as goal

pub returns : goal.returns
returns c = frames
