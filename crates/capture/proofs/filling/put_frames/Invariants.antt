-- `capture::filling::put_frames` meets its contract: after n turns the bytes of the first n frames stand at the front.
use mathlib.Core.Path.{◌≡◌}
use mathlib.Core.List.{List}
use Prim.Native.Nat.{ℕ, ◌≤◌}
use lib.ListN.{length, take}
use Rattle.laws.specs.Lent.{◌over◌}
use Rattle.radix.specs.Octets.{bytes_of}
use Rattle.capture.proofs.filling.put_frames.Given as goal

pub record Laid (fs o₀ : List ℕ) (n : ℕ) (o : List ℕ) : Type 0 where
  pub fits : n ≤ length fs
  pub is : o ≡ bytes_of (take n fs) over o₀

abbrev pub invariant-loop-n : goal.invariant-loop-n
invariant-loop-n l = Laid l.frames l.initial.out l.n l.out
