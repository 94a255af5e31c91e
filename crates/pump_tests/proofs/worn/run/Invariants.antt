use Rattle.pump_tests.proofs.worn.run.Given as goal

abbrev pub ghosts-turns_on : goal.ghosts-turns_on
ghosts-turns_on g a = record {
  chronicle = a.opened.chronicle;
  past = a.opened.past;
  ring = a.opened.ring;
  key = a.opened.key;
  handed = a.opened.handed;
  wear = a.opened.wear;
}
