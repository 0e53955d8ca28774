-- Which bytes are refused as a capture file, and with which number.
-- ┌─────────────────┬────────────────────────────────────────────────────────────────┐
-- │ Trailed bs      │ bs ends in a trailer: what stands ahead of it, and its three   │
-- │                 │ numbers                                                        │
-- │ PointsBack t    │ its distance is the length of what stands ahead, and at least  │
-- │                 │ eight times its count: as whole numbers, nothing wraps         │
-- │ Refuses bs n    │ n is the first refusal in the paper's order, 12, 21, 22, 23:   │
-- │                 │ each is given only where those before it are not               │
-- └─────────────────┴────────────────────────────────────────────────────────────────┘
use Rattle.std.specs.Prelude.{◌≡◌, List, ◌++◌, ℕ, ◌*◌, ◌^◌, ◌<◌, ◌≤◌, length}
use Rattle.paper.specs.Numbers.{unfit, no_tag, disagreeing, too_many_frames, most_bytes}
use Rattle.filing.specs.File.{most_frames, trailer}

pub record Trailed (bs : List ℕ) : Type 0 where
  pub ahead : List ℕ
  pub lane : ℕ
  pub count : ℕ
  pub distance : ℕ
  pub file : bs ≡ ahead ++ trailer lane count distance
  pub lane_fits : lane < 2 ^ 32
  pub count_fits : count < 2 ^ 64
  pub distance_fits : distance < 2 ^ 64

pub record PointsBack {bs : List ℕ} (t : Trailed bs) : Type 0 where
  pub back : t.distance ≡ length t.ahead
  pub room : t.count * 8 ≤ t.distance

pub data Refuses (bs : List ℕ) (n : ℕ) : Type 0 where
  over_size : n ≡ unfit → most_bytes < length bs → Refuses bs n
  without_tag : n ≡ no_tag → length bs ≤ most_bytes → (Trailed bs → ⊥) → Refuses bs n
  disagree : n ≡ disagreeing → length bs ≤ most_bytes → (t : Trailed bs) → (PointsBack t → ⊥) → Refuses bs n
  too_many : n ≡ too_many_frames → length bs ≤ most_bytes → (t : Trailed bs) → PointsBack t → most_frames < t.count → Refuses bs n
