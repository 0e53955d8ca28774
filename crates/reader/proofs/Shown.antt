-- What lists show of a frame that is read, and of one that is refused.
-- ┌──────────────┬─────────────────────────────────────────────────────────────────┐
-- │ shown_read … │ the claims of specs/Claims.antt by these names                  │
-- └──────────────┴─────────────────────────────────────────────────────────────────┘
use mathlib.Core.Path.{refl}
use mathlib.Core.Logic.{inl, inr}
use Rattle.reader.specs.Claims.{ShownRead, ShownRefused}

pub shown_read : ShownRead
shown_read f r a = a.few

pub shown_refused : ShownRefused
shown_refused f n (inl (e, _)) = (inl e, refl, refl, refl)
shown_refused f n (inr (e, _)) = (inr e, refl, refl, refl)
