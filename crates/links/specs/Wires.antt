-- The wire kind: its message, how received bytes read, and when a reply is due.
use Rattle.std.specs.Prelude.{ℕ, ◌/◌, ◌%◌, cond, ◌&&◌, ◌||◌, List, [], ◌∷◌, length, Some, None, Option, ◌==◌}
use Rattle.octets.specs.Words.{word_at, long_at}
use Rattle.records.specs.declared.command.Command.{Command}
use Rattle.records.specs.declared.command.Reply.{Reply}
use Rattle.records.specs.declared.command.Reply.TheVariants.{Ack, Nack, Odd}
use Rattle.links.specs.declared.wire.Wire.{Wire}
use Rattle.links.specs.Meaning.{LinkMeaning, Sound, LinkKind, idle, offer_answer, after_offer}

-- a word as two bytes, and a long as four
abbrev pub word_bytes : ℕ → List ℕ → List ℕ
word_bytes word rest = word / 256 ∷ word % 256 ∷ rest

abbrev pub long_bytes : ℕ → List ℕ
long_bytes long = long / 16777216 ∷ long / 65536 % 256 ∷ long / 256 % 256 ∷ long % 256 ∷ []

-- 0x0004, 0, command ID, SID, parameter
abbrev pub command_bytes : Command → List ℕ
command_bytes c = word_bytes 0x0004 (word_bytes 0 (word_bytes c.id (word_bytes c.sid (long_bytes c.parameter))))

abbrev pub message_of : Option Command → List ℕ
message_of None = []
message_of (Some c) = command_bytes c

-- two bytes 0x0084 are an ACK; eight that begin 0x00F4 or 0x01FF are a NACK, the code next, the detail last; all else is odd
abbrev pub reply_in : List ℕ → Reply
reply_in bytes =
    cond (length bytes == 2 && word_at bytes 0 == 0x0084) Ack
    (cond (length bytes == 8 && (word_at bytes 0 == 0x00F4 || word_at bytes 0 == 0x01FF)) (Nack (word_at bytes 2) (long_at bytes 4)) Odd)

-- the state of a wire is its meaning
abbrev pub wire_state : Wire → LinkMeaning
wire_state w = record { taken = w.intake.taken; held = w.intake.held; due = w.due }

-- a command is taken with nothing due
abbrev pub wire_offered : LinkMeaning → Command → LinkMeaning
wire_offered m c = after_offer (offer_answer m) m c None

abbrev pub wire_polled : Option Reply → LinkMeaning → LinkMeaning
wire_polled None m = m
wire_polled (Some reply) m = idle m.taken

-- received bytes make a reply due where a command is held and nothing is due yet
abbrev pub wire_received : Option Command → Option Reply → LinkMeaning → List ℕ → LinkMeaning
wire_received None due m bytes = m
wire_received (Some c) (Some reply) m bytes = m
wire_received (Some c) None m bytes = record { taken = m.taken; held = Some c; due = Some (reply_in bytes) }

abbrev pub wire_kind : LinkKind
wire_kind = record {
  State = LinkMeaning;
  Ok = Sound;
  means = λ m. m;
  offered = wire_offered;
  polled = λ m. wire_polled m.due m;
  received = λ m bytes. wire_received m.held m.due m bytes;
  abandoned = λ m. idle m.taken;
  message = λ m. message_of m.held;
  limit = 20;
}
