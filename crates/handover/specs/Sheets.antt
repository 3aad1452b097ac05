-- The verdict on each line of a telecommand sheet, and how many got which.
use Rattle.std.specs.Prelude.{ℕ, ◌+◌, ◌-◌, ◌^◌, min, List, ◌++◌, Some, None, Ok, Err, codes, decimal, Option}
use Rattle.bench_text.specs.Lines.{Said, skipped, unreadable, submit, deliver, tick, sample, collect, message}
use Rattle.records.specs.Texts.{refused_text}
use Rattle.telecommand_text.specs.Words.{telecommand_text}
use Rattle.telecommands.specs.Packets.{read_packet}
use Rattle.handover.specs.declared.verdict.OtherCall.{OtherCall}
use Rattle.handover.specs.declared.verdict.OtherCall.TheVariants.{Deliver, Tick, Sample, Collect, Message}
use Rattle.handover.specs.declared.verdict.Totals.{Totals}
use Rattle.handover.specs.declared.verdict.Verdict.{Verdict}
use Rattle.handover.specs.declared.verdict.Verdict.TheVariants.{Judged, NotJudged, Unreadable}

-- a packet is judged by the reader; other calls are not judged; a line that does not count has no verdict
abbrev pub verdict_of : Said → Option Verdict
verdict_of skipped = None
verdict_of unreadable = Some Unreadable
verdict_of (submit packet) = Some (Judged (read_packet packet))
verdict_of (deliver link bytes) = Some (NotJudged Deliver)
verdict_of tick = Some (NotJudged Tick)
verdict_of (sample function value) = Some (NotJudged Sample)
verdict_of collect = Some (NotJudged Collect)
verdict_of (message link) = Some (NotJudged Message)

abbrev pub blank : Totals
blank = record { taken = 0; refused = 0; not_judged = 0; unreadable = 0 }

-- one more, up to the largest number of 64 bits
abbrev pub more : ℕ → ℕ
more n = min (n + 1) (2 ^ 64 - 1)

abbrev pub counted : Totals → Verdict → Totals
counted t (Judged (Ok packet)) = record { taken = more t.taken; refused = t.refused; not_judged = t.not_judged; unreadable = t.unreadable }
counted t (Judged (Err refusal)) = record { taken = t.taken; refused = more t.refused; not_judged = t.not_judged; unreadable = t.unreadable }
counted t (NotJudged call) = record { taken = t.taken; refused = t.refused; not_judged = more t.not_judged; unreadable = t.unreadable }
counted t Unreadable = record { taken = t.taken; refused = t.refused; not_judged = t.not_judged; unreadable = more t.unreadable }

-- the word by which a line asks for a call
abbrev pub call_word : OtherCall → List ℕ
call_word Deliver = codes "deliver"
call_word Tick = codes "tick"
call_word Sample = codes "sample"
call_word Collect = codes "collect"
call_word Message = codes "message"

abbrev pub verdict_text : Verdict → List ℕ
verdict_text (Judged (Ok packet)) =
    codes "taken, counter " ++ (decimal packet.counter ++ (codes ": " ++ telecommand_text packet.telecommand))
verdict_text (Judged (Err refusal)) = refused_text refusal
verdict_text (NotJudged call) = codes "not judged here: " ++ call_word call
verdict_text Unreadable = codes "unreadable"
