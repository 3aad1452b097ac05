-- The machine over any kinds of three links and a watch: for each call its answer and what it leaves.
pub use Rattle.machine.specs.Executive.{with_desk, with_seats, means_at, offered_at, abandoned_at, received_at, pending_now, free, width_of, message_of, status_of, in_trouble, is_set_on, Machine}
pub use Rattle.machine.specs.Parts.{pending_of, pending_in, pending_run, offer_fault, sent_on, spent_on, action_at, parameter_of, waited, expected, quiet, differ, collected_from, handed, Answer, Handed, event, report, nothing}
pub use Rattle.machine.specs.Samples.{deliver_answer, after_deliver, sample_refusal, trouble_after, changes, sampled_by, sample_answer, watched, after_sample_by, after_sample, collect_answer, after_collect}
pub use Rattle.machine.specs.Submits.{triggered_by, triggered, performed, withdrawn, stopped_run, stopping, done, stopped, outcome_of, carried_out, numbered_in, acceptance, submit_answer, submitted_by, after_submit}
pub use Rattle.machine.specs.Ticks.{sent_by, sending, stepped, stepped_in, stepped_run, ticked_of, turn0, turn1, turn2, tick_answer, after_tick}
