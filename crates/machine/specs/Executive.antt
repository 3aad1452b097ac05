-- What the executive holds, what it does at one of its links, and the questions.
use Rattle.std.specs.Prelude.{ℕ, ◌+◌, ◌-◌, Bool, cond, ◌&&◌, List, [], length, ◌==◌}
use Rattle.links.specs.Meaning.{LinkKind, LinkMeaning}
use Rattle.records.specs.declared.command.Command.{Command}
use Rattle.watches.specs.Meaning.{WatchKind, within}
use Rattle.machine.specs.declared.state.LinkStatus.{LinkStatus}
use Rattle.machine.specs.declared.state.Owner.{Owner}
use Rattle.machine.specs.Desks.{Desk, status_at, is_on}
use Rattle.machine.specs.Seats.{Seat, seat_offered, seat_abandoned, seat_received}
use Rattle.machine.specs.Parts.{pending_in, pending_run}

pub record Machine (K0 K1 K2 : LinkKind) (W : WatchKind) : Type 0 where
  pub seat0 : Seat K0
  pub seat1 : Seat K1
  pub seat2 : Seat K2
  pub watch : W.State
  pub desk : Desk

module _ {K0 K1 K2 : LinkKind} {W : WatchKind} where
  abbrev pub with_desk : Machine K0 K1 K2 W → Desk → Machine K0 K1 K2 W
  with_desk m d = record { seat0 = m.seat0; seat1 = m.seat1; seat2 = m.seat2; watch = m.watch; desk = d }

  abbrev pub with_seats : Machine K0 K1 K2 W → Seat K0 → Seat K1 → Seat K2 → Machine K0 K1 K2 W
  with_seats m s0 s1 s2 = record { seat0 = s0; seat1 = s1; seat2 = s2; watch = m.watch; desk = m.desk }

  -- what a link means; above link 2 it is the last one's, which no rule asks
  abbrev pub means_at : Machine K0 K1 K2 W → ℕ → LinkMeaning
  means_at m link =
      cond (link == 0) (K0.means m.seat0.link) (cond (link == 1) (K1.means m.seat1.link) (K2.means m.seat2.link))

  abbrev pub offered_at : Machine K0 K1 K2 W → ℕ → Command → Owner → Machine K0 K1 K2 W
  offered_at m link c o =
      cond (link == 0) (with_seats m (seat_offered c o m.seat0) m.seat1 m.seat2)
      (cond (link == 1) (with_seats m m.seat0 (seat_offered c o m.seat1) m.seat2)
      (with_seats m m.seat0 m.seat1 (seat_offered c o m.seat2)))

  abbrev pub abandoned_at : Machine K0 K1 K2 W → ℕ → Machine K0 K1 K2 W
  abandoned_at m link =
      cond (link == 0) (with_seats m (seat_abandoned m.seat0) m.seat1 m.seat2)
      (cond (link == 1) (with_seats m m.seat0 (seat_abandoned m.seat1) m.seat2)
      (with_seats m m.seat0 m.seat1 (seat_abandoned m.seat2)))

  abbrev pub received_at : Machine K0 K1 K2 W → ℕ → List ℕ → Machine K0 K1 K2 W
  received_at m link bytes =
      cond (link == 0) (with_seats m (seat_received bytes m.seat0) m.seat1 m.seat2)
      (cond (link == 1) (with_seats m m.seat0 (seat_received bytes m.seat1) m.seat2)
      (with_seats m m.seat0 m.seat1 (seat_received bytes m.seat2)))

  -- accepted numbers without a final report, by what is noted of them
  abbrev pub pending_now : Machine K0 K1 K2 W → ℕ
  pending_now m = pending_in m.seat0.hold + pending_in m.seat1.hold + pending_in m.seat2.hold + pending_run m.desk.run

  -- free: places of the report store that are neither taken nor owed
  abbrev pub free : Machine K0 K1 K2 W → ℕ
  free m = 400 - (length m.desk.log.reports + pending_now m)

  abbrev pub width_of : Machine K0 K1 K2 W → ℕ
  width_of m = W.width m.watch

  -- the questions, which change nothing

  -- what a link would send now; nothing above link 2
  abbrev pub message_of : Machine K0 K1 K2 W → ℕ → List ℕ
  message_of m link =
      cond (link == 0) (K0.message m.seat0.link)
      (cond (link == 1) (K1.message m.seat1.link) (cond (link == 2) (K2.message m.seat2.link) []))

  -- a link's status; off above link 2
  abbrev pub status_of : Machine K0 K1 K2 W → ℕ → LinkStatus
  status_of m link = status_at m.desk link

  -- whether a function is in trouble; outside the width none is
  abbrev pub in_trouble : Machine K0 K1 K2 W → ℕ → Bool
  in_trouble m f = W.trouble m.watch f

  -- whether a function is set on; outside the width none is
  abbrev pub is_set_on : Machine K0 K1 K2 W → ℕ → Bool
  is_set_on m f = within (width_of m) f && is_on m.desk f
