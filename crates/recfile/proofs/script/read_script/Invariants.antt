use Rattle.std.proofs.Common.{◌≡◌, ◌+◌, ◌≤◌, vec_len}
use Rattle.std.specs.Io.KnownBytes.{Consumes}
use Rattle.recfile.proofs.script.read_script.Given as goal

abbrev pub invariant-loop-turn : goal.invariant-loop-turn
invariant-loop-turn g l = record {
  taken : Consumes (g.R.CountedRead.left l.fn.reader) (g.R.CountedRead.left l.reader) l.script.items;
  fits : vec_len l.script ≤ 1048577;
  turns : l.turn ≤ vec_len l.script;
  counted : l.calls.reads ≤ l.fn.calls.reads + l.turn;
  read : l.calls.read_failed ≡ l.fn.calls.read_failed;
  written : l.calls.write_failed ≡ l.fn.calls.write_failed;
}
