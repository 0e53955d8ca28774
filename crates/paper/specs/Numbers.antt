-- The numbers that the paper fixes for more than one crate: its refusals and its limits.
-- ┌─────────────────┬────┬───────────────────────────────────────────────────────────┐
-- │ outside         │ 11 │ data, a state, a verdict, a flag or a number that is none │
-- │ unfit           │ 12 │ lengths that do not fit                                   │
-- │ no_word          │ 13 │ no code word within two flips                             │
-- │ run_broken       │ 14 │ the code word within two flips has a wrong run bit        │
-- │ no_block         │ 15 │ no lawful block is near                                   │
-- │ eighth          │ 16 │ the block found has v = 8                                 │
-- │ too_many_bits     │ 17 │ copies that differ in two or more bits                    │
-- │ all_zero         │ 18 │ a register of zeros                                       │
-- │ nothing_compared │ 19 │ a report before any bit was compared                      │
-- │ past_count       │ 20 │ a count would pass `most_counted`                          │
-- │ no_tag           │ 21 │ no such tag, or under 24 bytes                            │
-- │ disagreeing     │ 22 │ the numbers of the trailer disagree with the file         │
-- │ too_many_frames   │ 23 │ over 8,000 frames                                         │
-- ├─────────────────┼────┴───────────────────────────────────────────────────────────┤
-- │ unless n b      │ 0, no refusal, where the test b is passed; n where it is not   │
-- │ most_bytes       │ of a piece and of a buffer                                     │
-- │ most_counted     │ the bits compared, the frames and the check flips of a tally,  │
-- │                 │ at most                                                        │
-- └─────────────────┴────────────────────────────────────────────────────────────────┘
use Rattle.std.specs.Prelude.{Bool, true, false, ℕ, ◌-◌, ◌^◌}

abbrev pub outside : ℕ
outside = 11

abbrev pub unfit : ℕ
unfit = 12

abbrev pub no_word : ℕ
no_word = 13

abbrev pub run_broken : ℕ
run_broken = 14

abbrev pub no_block : ℕ
no_block = 15

abbrev pub eighth : ℕ
eighth = 16

abbrev pub too_many_bits : ℕ
too_many_bits = 17

abbrev pub all_zero : ℕ
all_zero = 18

abbrev pub nothing_compared : ℕ
nothing_compared = 19

abbrev pub past_count : ℕ
past_count = 20

abbrev pub no_tag : ℕ
no_tag = 21

abbrev pub disagreeing : ℕ
disagreeing = 22

abbrev pub too_many_frames : ℕ
too_many_frames = 23

abbrev pub unless : ℕ → Bool → ℕ
unless n true = 0
unless n false = n

abbrev pub most_bytes : ℕ
most_bytes = 65536

abbrev pub most_counted : ℕ
most_counted = 2 ^ 53 - 1
