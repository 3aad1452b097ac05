-- What one line of a session leaves, and what is printed for it.
use Rattle.std.specs.Prelude.{ℕ, ◌+◌, min, List, []}
use Rattle.answer_text.specs.Lines.{answer_line, message_line, unreadable_line}
use Rattle.bench_text.specs.Lines.{Said, skipped, unreadable, submit, deliver, tick, sample, collect, message}
use Rattle.console.specs.Lives.{Bench}
use Rattle.machine.specs.Calls.{Told}
use Rattle.machine.specs.Calls as calls
use Rattle.machine.specs.Machine.{Answer, message_of}

abbrev pub next_place : ℕ → ℕ
next_place last = min (last + 1) 18446744073709551615

-- lines that count have places from 1, up to the largest number of 64 bits
abbrev pub place_after : ℕ → Said → ℕ
place_after last skipped = last
place_after last unreadable = next_place last
place_after last (submit packet) = next_place last
place_after last (deliver link bytes) = next_place last
place_after last tick = next_place last
place_after last (sample f v) = next_place last
place_after last collect = next_place last
place_after last (message link) = next_place last

-- a line that is no call leaves the machine as it was
abbrev pub after_line : Bench → Said → Bench
after_line m skipped = m
after_line m unreadable = m
after_line m (submit packet) = calls.after m (calls.submit packet)
after_line m (deliver link bytes) = calls.after m (calls.deliver link bytes)
after_line m tick = calls.after m calls.tick
after_line m (sample f v) = calls.after m (calls.sample f v)
after_line m collect = calls.after m calls.collect
after_line m (message link) = m

abbrev pub answer_text : ℕ → Answer Told → List ℕ
answer_text place a = answer_line place a.outcome a.raised a.lost

-- nothing is printed for a line that does not count
abbrev pub printed : Bench → ℕ → Said → List ℕ
printed m place skipped = []
printed m place unreadable = unreadable_line place
printed m place (submit packet) = answer_text place (calls.answer_to m (calls.submit packet))
printed m place (deliver link bytes) = answer_text place (calls.answer_to m (calls.deliver link bytes))
printed m place tick = answer_text place (calls.answer_to m calls.tick)
printed m place (sample f v) = answer_text place (calls.answer_to m (calls.sample f v))
printed m place collect = answer_text place (calls.answer_to m calls.collect)
printed m place (message link) = message_line place (message_of m link)
