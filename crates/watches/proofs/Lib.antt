mod InTurn
