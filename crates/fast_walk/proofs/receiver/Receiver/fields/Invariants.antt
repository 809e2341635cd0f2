use Rattle.fast_walk.proofs.Common.{◌≡◌, ◌≤◌, Bool, List, IsTrue, None, length, list_of, Carries, KeepScalars, AreServed, TakesFields}
use Rattle.fast_walk.proofs.receiver.Receiver.fields.Given as goal

abbrev pub invariant-fields : goal.invariant-fields
invariant-fields g l = record {
  place : (l.fn.at ≤ l.fields.place) × (l.fields.place ≤ length l.bytes);
  mantissa : l.fields.mantissa ≡ None;
  few : l.fields.spare ≤ l.fn.spare;
  served : AreServed (g.E.Entries.serves l.entries) (list_of l.fields.rest.now);
  kept : KeepScalars (g.E.Entries.contents l.entries);
  awaits : (around : List (List Bool)) → IsTrue (g.Self.Receiver.awaits l.fn.self around l.fn.bits) → IsTrue (g.Self.Receiver.awaits l.self around l.bits);
  takes : TakesFields g.Self.Receiver.has l.fn.level l.bytes l.fn.self (g.E.Entries.contents l.fn.entries) l.fn.bits l.initial.fields l.self (g.E.Entries.contents l.entries) l.bits l.fields;
  keeps : Carries (g.Self.Receiver.keeps l.fn.self) (g.Self.Receiver.keeps l.self);
  same_keys : g.E.Entries.serves l.entries ≡ g.E.Entries.serves l.fn.entries;
}

abbrev pub decreases-fields : goal.decreases-fields
decreases-fields g l = l.fields.spare
