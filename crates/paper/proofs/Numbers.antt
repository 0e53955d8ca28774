-- The claims of specs/Claims.antt, by the same names in lower case.
use mathlib.Core.Path.{refl}
use Rattle.paper.specs.Claims.{InOrder, WholeFrames}

pub in_order : InOrder
in_order = refl

pub whole_frames : WholeFrames
whole_frames = refl
