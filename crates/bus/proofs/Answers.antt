-- No second answer fits a contract.
-- ┌──────────────────────────────────┬──────────────────────────────────────────────┐
-- │ one_start, one_send, one_receive │ of each call                                 │
-- └──────────────────────────────────┴──────────────────────────────────────────────┘
use mathlib.Core.Path.{sym, ◌∙◌}
use Rattle.paper.proofs.Answer.{answer_one}
use Rattle.bus.specs.Claims.{OneStart, OneSend, OneReceive}

pub one_start : OneStart
one_start w r s p q = answer_one r s (p ∙ sym q)

pub one_send : OneSend
one_send b y r s p q = answer_one r s (p ∙ sym q)

pub one_receive : OneReceive
one_receive w x v r s p q = answer_one r s (p ∙ sym q)
