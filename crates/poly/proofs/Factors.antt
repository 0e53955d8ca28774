-- ┌─────────────┬──────────────────────────────────────────────────────────────────┐
-- │ factors     │ g is the product of x^6 + x + 1 and x^6 + x^4 + x^2 + x + 1      │
-- └─────────────┴──────────────────────────────────────────────────────────────────┘
use mathlib.Core.Path.{refl}
use Rattle.poly.specs.Poly.{times}
use Rattle.poly.specs.Claims.{Factors}

pub factors : Factors
unfolding times
factors = refl
