use Rattle.target_crew.proofs.crew.serve.Given as goal

abbrev pub ghosts-serve_opened : goal.ghosts-serve_opened
ghosts-serve_opened g a = record {
  chronicle = a.opened.chronicle;
  past = a.opened.past;
  ring = a.opened.ring;
  key = a.opened.key;
  handed = a.opened.handed;
  wear = a.opened.wear;
}
